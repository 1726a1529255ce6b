-- The standard rule shows what every rule shows.
use Rattle.std.specs.Prelude.{ℕ, ◌-◌, ◌*◌, ◌/◌, ◌<◌, ◌≤◌, ◌&&◌, ◌==◌, nat_lt}
use Rattle.std.proofs.Common.{mul-le-mul_left, arith}
use Rattle.std.proofs.lemmas.Nat.{mul-le}
use Rattle.std.proofs.lemmas.Bool.{and_parts, ltb-true, cond_both}
use Rattle.settings.specs.Ranges.{In}
use Rattle.settings.specs.declared.figures.Figures.{Figures}
use Rattle.settings.specs.declared.fault.SettingsFault.TheVariants.{Gain}
use Rattle.rates.specs.declared.rates.Rates.{Rates}
use Rattle.rates.specs.declared.rates.Stages.{Stages}
use Rattle.rates.specs.Rule.{Falls, Rises, Lawful, largest_target}
use Rattle.rates.specs.Standard.{standard, standard_floor, decrease, reduced, cut_to, next_target, raised_to}
use Rattle.rates.specs.Conditions.{ruled_lawful}

module _ (f : Figures) (gain : In Gain f) (value : ℕ) (low : 1 ≤ value) where
  decrease_low : 1 ≤ decrease f value
  decrease_low = omega (arith, mul-le 1 1 f.gain value gain.0 low)

  -- what is left is at least half of the rate
  pub reduced_half : (c : ℕ) → c / 2 ≤ reduced f c value
  reduced_half c = omega (arith, mul-le-mul_left c (let h : 512 ≤ 1024 - decrease f value = omega arith in h))

  -- and less than the rate
  pub reduced_lower : (c : ℕ) → 1 ≤ c → reduced f c value < c
  reduced_lower c some = omega (arith, mul-le-mul_left c (let h : 1024 - decrease f value ≤ 1023 = omega (arith, decrease_low) in h))

  cut_falls : (c : ℕ) → standard_floor ≤ c → Falls standard_floor c (cut_to f c value)
  cut_falls c above =
      let half = reduced_half c in
      let less = reduced_lower c (omega arith) in
      record { above_floor = omega arith; at_least_half = omega arith; lower = λ h. omega arith; rests = λ h. omega arith }

-- the new target is never below the current rate
pub target_above : (f : Figures) (r : Rates) (s : Stages) → r.current ≤ r.target → r.target ≤ largest_target → r.current ≤ next_target f r s
target_above f r s ordered ends =
    cond_both (s.byte == 1 && nat_lt (10 * r.current) r.target) _ _ (λ t. r.current ≤ t)
    (λ e. omega (arith, ltb-true _ _ (and_parts (s.byte == 1) _ e).1))
    (λ _. omega arith)

pub target_ends : (f : Figures) (r : Rates) (s : Stages) → r.target ≤ largest_target → next_target f r s ≤ largest_target
target_ends f r s ends =
    cond_both (s.byte == 1 && nat_lt (10 * r.current) r.target) _ _ (λ t. t ≤ largest_target)
    (λ _. omega arith)
    (λ _. omega arith)

pub raise_rises : (f : Figures) (line : ℕ) (r : Rates) (s : Stages) → r.current ≤ line → r.current ≤ r.target → r.target ≤ largest_target → Rises line r (raised_to f line r s)
raise_rises f line r s below ordered ends =
    let above = target_above f r s ordered ends in
    let most = target_ends f r s ends in
    record { not_lower = omega arith; below_line = omega arith; ordered = omega arith; target_ends = most }

pub standard_lawful : (f : Figures) → In Gain f → Lawful (standard f)
standard_lawful f gain = ruled_lawful standard_floor (cut_to f) (raised_to f) (record {
  floor_low = omega arith;
  floor_high = omega arith;
  falls = λ line c v b low high. cut_falls f gain v low c b.from_floor;
  rises = λ line r s h. raise_rises f line r s h.in_line.to_line h.ordered h.target_ends;
})
