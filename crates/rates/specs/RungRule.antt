-- The rung rule: the standard rule's rates, moved to rungs.
use Rattle.std.specs.Prelude.{ℕ, ◌+◌, min, max, cond, ◌==◌, nat_lt}
use Rattle.std.specs.Option.{unwrap_or}
use Rattle.settings.specs.declared.figures.Figures.{Figures}
use Rattle.rates.specs.declared.rates.Rates.{Rates}
use Rattle.rates.specs.declared.rates.Stages.{Stages}
use Rattle.rates.specs.Rule.{Rule, ruled}
use Rattle.rungs.specs.Rungs.{greatest_below, least_from}
use Rattle.rates.specs.Standard.{reduced, raised_to}

-- The lowest rung.
abbrev pub rung_floor : ℕ
rung_floor = 10048

-- The lower of two rungs: the greatest below the current rate, and the least that is at least what the standard rule leaves of it.
abbrev pub rung_cut : Figures → ℕ → ℕ → ℕ
rung_cut f current value = min (unwrap_or (greatest_below current) current) (unwrap_or (least_from (reduced f current value)) current)

-- A current rate above the floor is cut so; the floor stays.
abbrev pub rung_cut_to : Figures → ℕ → ℕ → ℕ
rung_cut_to f current value = cond (nat_lt rung_floor current) (rung_cut f current value) current

-- The line rate where the standard rule reaches it; else the greatest rung not above the standard rule's rate, and never lower than before.
abbrev pub rung_current : ℕ → ℕ → ℕ → ℕ
rung_current line current standard = cond (standard == line) line (max (unwrap_or (greatest_below (standard + 1)) current) current)

-- The target is the standard rule's.
abbrev pub rung_raised_to : Figures → ℕ → Rates → Stages → Rates
rung_raised_to f line r s = record {
  current = rung_current line r.current (raised_to f line r s).current;
  target = (raised_to f line r s).target;
}

abbrev pub by_rungs : Figures → Rule
by_rungs f = ruled rung_floor (rung_cut_to f) (rung_raised_to f)
