-- What the settings' judge answers is what eight numbers settle to.
use Rattle.std.proofs.Common.{◌≡◌, ℕ, Bool, true, false, Ok, Err, Result, sym, refl, ap, ◌∙◌, arith}
use mathlib.Core.Path.{PathP}
use mathlib.Core.HLevel.{×_prop, is_prop→PathP}
use native.Mathlib.Bridge.{le_prop}
use Rattle.settings.specs.Judged.{judged, told}
use Rattle.settings.specs.Ranges.{In, within, least, most, figure}
use Rattle.settings.specs.declared.accepted.Settings.{Settings}
use Rattle.settings.specs.declared.fault.SettingsFault.{SettingsFault}
use Rattle.settings.specs.declared.fault.SettingsFault.TheVariants.{LineRate, Gain, StepA, StepB, Period, ByteLimit, SetPoint, Weight}
use Rattle.settings.specs.declared.figures.Figures.{Figures}
use Rattle.trace.specs.Settled.{where_true, settled}

in_prop : (s : SettingsFault) (f : Figures) → IsProp (In s f)
in_prop s f = ×_prop (le_prop {n = least s f} {m = figure s f}) (le_prop {n = figure s f} {m = most s})

over : (s : SettingsFault) (f g : Figures) (p : f ≡ g) (a : In s f) (b : In s g) → PathP (λ i. In s (p i)) a b
over s f g p a b = is_prop→PathP (λ i. In s (p i)) (λ i. in_prop s (p i)) a b

-- settings of the same numbers are the same
pub same_settings : (a b : Settings) → a.figures ≡ b.figures → a ≡ b
same_settings a b p = λ i. record {
  figures = p i;
  line_rate_in = over LineRate a.figures b.figures p a.line_rate_in b.line_rate_in i;
  gain_in = over Gain a.figures b.figures p a.gain_in b.gain_in i;
  step_a_in = over StepA a.figures b.figures p a.step_a_in b.step_a_in i;
  step_b_in = over StepB a.figures b.figures p a.step_b_in b.step_b_in i;
  period_in = over Period a.figures b.figures p a.period_in b.period_in i;
  byte_limit_in = over ByteLimit a.figures b.figures p a.byte_limit_in b.byte_limit_in i;
  set_point_in = over SetPoint a.figures b.figures p a.set_point_in b.set_point_in i;
  weight_in = over Weight a.figures b.figures p a.weight_in b.weight_in i;
}

-- a test in both, the same in what is told
where_told :
    (b : Bool) (s : SettingsFault) (f : b ≡ true → Result Settings SettingsFault) (x : Result Figures SettingsFault) → ((e : b ≡ true) → told (f e) ≡ x)
    → told (where_true b f (Err s)) ≡ elim b [ false ↦ Err s | true ↦ x ]
where_told true s f x h = h refl
where_told false s f x h = refl

settled_told : (f : Figures) → told (settled f) ≡ judged f
settled_told f =
    where_told (within LineRate f) LineRate _ _ (λ _. where_told (within Gain f) Gain _ _ (λ _. where_told (within StepA f) StepA _ _ (λ _. where_told (within StepB f) StepB _ _ (λ _.
    where_told (within Period f) Period _ _ (λ _. where_told (within ByteLimit f) ByteLimit _ _ (λ _. where_told (within SetPoint f) SetPoint _ _ (λ _. where_told (within Weight f) Weight _ _ (λ _. refl))))))))

pub same_ok : {A B : Type 0} (x y : A) → ◌≡◌ {A = Result A B} (Ok x) (Ok y) → x ≡ y
same_ok x y e = cc

pub same_err : {A B : Type 0} (x y : B) → ◌≡◌ {A = Result A B} (Err x) (Err y) → x ≡ y
same_err x y e = cc

pub apart : {A B : Type 0} (x : A) (y : B) → ◌≡◌ {A = Result A B} (Ok x) (Err y) → ⊥
apart x y e = let z : ◌≡◌ {A = ℕ} 0 1 = cc in omega arith

same_told : (r q : Result Settings SettingsFault) → told r ≡ told q → r ≡ q
same_told (Ok a) (Ok b) e = ap (λ (x : Settings). Ok x) (same_settings a b (same_ok a.figures b.figures e))
same_told (Ok a) (Err y) e = absurd (apart a.figures y e)
same_told (Err x) (Ok b) e = absurd (apart b.figures x (sym e))
same_told (Err x) (Err y) e = ap (λ (z : SettingsFault). Err z) (same_err x y e)

pub settles : (r : Result Settings SettingsFault) (f : Figures) → told r ≡ judged f → r ≡ settled f
settles r f e = same_told r (settled f) (e ∙ sym (settled_told f))
