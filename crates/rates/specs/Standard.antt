-- The standard rule, with the gain and the steps of the settings.
use Rattle.std.specs.Prelude.{ℕ, ◌+◌, ◌-◌, ◌*◌, ◌/◌, min, max, cond, ◌&&◌, ◌||◌, ◌==◌, nat_lt}
use Rattle.settings.specs.declared.figures.Figures.{Figures}
use Rattle.rates.specs.declared.rates.Rates.{Rates}
use Rattle.rates.specs.declared.rates.Stages.{Stages}
use Rattle.rates.specs.Rule.{Rule, ruled, largest_target}

abbrev pub standard_floor : ℕ
standard_floor = 10000

-- What a notice of a value takes, in 1/1024 of the rate: gain times value, at most one half.
abbrev pub decrease : Figures → ℕ → ℕ
decrease f value = min (f.gain * value) 512

-- What is left of the rate then.
abbrev pub reduced : Figures → ℕ → ℕ → ℕ
reduced f current value = current * (1024 - decrease f value) / 1024

-- A cut leaves that, or the floor where it is more.
abbrev pub cut_to : Figures → ℕ → ℕ → ℕ
cut_to f current value = max standard_floor (reduced f current value)

-- What a raise adds to the target: nothing while neither stage is above 5, step A where just one is, and step B for each stage that both are above 5.
abbrev pub extra : Figures → Stages → ℕ
extra f s = cond (nat_lt 5 s.byte && nat_lt 5 s.timer)
    (f.step_b * (min s.byte s.timer - 5))
    (cond (nat_lt 5 s.byte || nat_lt 5 s.timer) f.step_a 0)

-- The target after a raise. At byte stage 1 a target above ten times the current rate falls to an eighth.
abbrev pub next_target : Figures → Rates → Stages → ℕ
next_target f r s = cond (s.byte == 1 && nat_lt (10 * r.current) r.target)
    (r.target / 8)
    (min (r.target + extra f s) largest_target)

-- The current rate goes half way to the new target, and no further than the line rate.
abbrev pub raised_to : Figures → ℕ → Rates → Stages → Rates
raised_to f line r s = record {
  current = min line ((next_target f r s + r.current) / 2);
  target = next_target f r s;
}

abbrev pub standard : Figures → Rule
standard f = ruled standard_floor (cut_to f) (raised_to f)
