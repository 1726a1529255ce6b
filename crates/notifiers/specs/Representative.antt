-- The layer that withholds.
use Rattle.std.specs.Prelude.{ℕ, true, cond, nat_le}
use Rattle.notifiers.specs.declared.representative.Representative.{Representative}
use Rattle.notifiers.specs.declared.shown.Showing.{Showing}
use Rattle.notifiers.specs.declared.shown.Showing.TheVariants.{Unsampled, Quiet, Notice}
use Rattle.notifiers.specs.Meter.{Meter}

abbrev pub over : {N : Type 0} → N → Representative N
over n = record { below = n }

-- All is as below, but it withholds.
abbrev pub withheld : Meter → Meter
withheld m = record { set_point = m.set_point; weight = m.weight; gap = m.gap; withholds = true; old = m.old; since = m.since }

-- A notice that is not above the mark is no notice.
abbrev pub covered : ℕ → Showing → Showing
covered mark Unsampled = Unsampled
covered mark Quiet = Quiet
covered mark (Notice v) = cond (nat_le v mark) Quiet (Notice v)
