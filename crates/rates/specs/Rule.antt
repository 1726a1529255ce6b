-- What a rate rule means, and what every rule shows.
use Rattle.std.specs.Prelude.{◌≡◌, ℕ, ◌/◌, ◌<◌, ◌≤◌, Bool, true, false, cond, ◌&&◌, nat_le}
use Rattle.settings.specs.Ranges.{slowest, fastest}
use Rattle.rates.specs.declared.rates.Rates.{Rates}
use Rattle.rates.specs.declared.rates.Stages.{Stages}

-- A floor and two functions. `cut` takes the line rate, the current rate and a value; `raise` takes the line rate, both rates and the stages.
pub record Rule : Type 0 where
  pub floor : ℕ
  pub cut : ℕ → ℕ → ℕ → ℕ
  pub raise : ℕ → Rates → Stages → Rates

-- Where targets end.
abbrev pub largest_target : ℕ
largest_target = 40000000

-- A current rate lies from the floor to an accepted line rate.
abbrev pub in_bounds : ℕ → ℕ → ℕ → Bool
in_bounds floor line current = nat_le slowest line && (nat_le line fastest && (nat_le floor current && nat_le current line))

-- A rule cuts a current rate in bounds at a value from 1 to 63.
abbrev pub cuttable : ℕ → ℕ → ℕ → ℕ → Bool
cuttable floor line current value = in_bounds floor line current && (nat_le 1 value && nat_le value 63)

-- A rule raises where the current rate is in bounds and the target lies from it to the largest.
abbrev pub raisable : ℕ → ℕ → Rates → Bool
raisable floor line r = in_bounds floor line r.current && (nat_le r.current r.target && nat_le r.target largest_target)

-- A cut from `before` to `after`: never below the floor, never below half, and lower unless it stands at the floor, where it stays.
pub record Falls (floor before after : ℕ) : Type 0 where
  pub above_floor : floor ≤ after
  pub at_least_half : before / 2 ≤ after
  pub lower : floor < before → after < before
  pub rests : before ≡ floor → after ≡ floor

-- A raise: the current rate does not fall and ends at the line rate, and the target stays at or above it and ends at the largest.
pub record Rises (line : ℕ) (before after : Rates) : Type 0 where
  pub not_lower : before.current ≤ after.current
  pub below_line : after.current ≤ line
  pub ordered : after.current ≤ after.target
  pub target_ends : after.target ≤ largest_target

-- What every rule shows. Outside its conditions it answers the rates it was given.
pub record Lawful (rule : Rule) : Type 0 where
  pub floor_low : 10000 ≤ rule.floor
  pub floor_high : rule.floor ≤ 100000
  pub cuts : (line current value : ℕ) → cuttable rule.floor line current value ≡ true → Falls rule.floor current (rule.cut line current value)
  pub leaves_uncut : (line current value : ℕ) → cuttable rule.floor line current value ≡ false → rule.cut line current value ≡ current
  pub raises : (line : ℕ) (r : Rates) (s : Stages) → raisable rule.floor line r ≡ true → Rises line r (rule.raise line r s)
  pub leaves_unraised : (line : ℕ) (r : Rates) (s : Stages) → raisable rule.floor line r ≡ false → rule.raise line r s ≡ r

-- A rule from a floor, and what it cuts and raises to where it may.
abbrev pub ruled : ℕ → (ℕ → ℕ → ℕ) → (ℕ → Rates → Stages → Rates) → Rule
ruled floor cut_to raised_to = record {
  floor = floor;
  cut = λ line current value. cond (cuttable floor line current value) (cut_to current value) current;
  raise = λ line r s. cond (raisable floor line r) (raised_to line r s) r;
}
