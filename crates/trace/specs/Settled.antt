-- The settings that eight numbers make, or the first that is out of its range.
use Rattle.std.specs.Prelude.{◌≡◌, Bool, true, false, Ok, Err, Result, refl}
use Rattle.std.proofs.lemmas.Bool.{and_parts, leb-true}
use Rattle.settings.specs.Ranges.{In, within}
use Rattle.settings.specs.declared.accepted.Settings.{Settings}
use Rattle.settings.specs.declared.fault.SettingsFault.{SettingsFault}
use Rattle.settings.specs.declared.fault.SettingsFault.TheVariants.{LineRate, Gain, StepA, StepB, Period, ByteLimit, SetPoint, Weight}
use Rattle.settings.specs.declared.figures.Figures.{Figures}

-- What follows where a test holds, and else.
abbrev pub where_true : {X : Type 0} (b : Bool) → (b ≡ true → X) → X → X
where_true true f x = f refl
where_true false f x = x

pub in_range : (s : SettingsFault) (f : Figures) → within s f ≡ true → In s f
in_range s f e = (leb-true _ _ (and_parts _ _ e).0, leb-true _ _ (and_parts _ _ e).1)

abbrev pub settled : Figures → Result Settings SettingsFault
settled f =
    where_true (within LineRate f) (λ a. where_true (within Gain f) (λ b. where_true (within StepA f) (λ c. where_true (within StepB f) (λ d.
    where_true (within Period f) (λ e. where_true (within ByteLimit f) (λ g. where_true (within SetPoint f) (λ h. where_true (within Weight f) (λ k.
    Ok (record {
      figures = f;
      line_rate_in = in_range LineRate f a;
      gain_in = in_range Gain f b;
      step_a_in = in_range StepA f c;
      step_b_in = in_range StepB f d;
      period_in = in_range Period f e;
      byte_limit_in = in_range ByteLimit f g;
      set_point_in = in_range SetPoint f h;
      weight_in = in_range Weight f k;
    }))
    (Err Weight)) (Err SetPoint)) (Err ByteLimit)) (Err Period)) (Err StepB)) (Err StepA)) (Err Gain)) (Err LineRate)
