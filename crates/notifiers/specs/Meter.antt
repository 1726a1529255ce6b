-- What a notifier means: what it is shown, what it answers, and what becomes of it.
use Rattle.std.specs.Prelude.{ℕ, ◌+◌, Bool, cond, ◌&&◌, ◌||◌, ◌==◌, nat_le}
use Rattle.notifiers.specs.declared.shown.Shown.{Shown}
use Rattle.notifiers.specs.declared.shown.Showing.{Showing}
use Rattle.notifiers.specs.declared.shown.Showing.TheVariants.{Unsampled, Quiet, Notice}
use Rattle.notifiers.specs.Severity.{severity}

-- Constants: set point, weight, gap, and whether it withholds. State: the pages at the last sample, and the bytes since.
pub record Meter : Type 0 where
  pub set_point : ℕ
  pub weight : ℕ
  pub gap : ℕ
  pub withholds : Bool
  pub old : ℕ
  pub since : ℕ

-- A frame that can be shown: up to 2,048 pages, a length from 64 to 2,000, a mark up to 63.
abbrev pub lawful : Shown → Bool
lawful s = nat_le s.pages 2048 && (nat_le 64 s.length && (nat_le s.length 2000 && nat_le s.mark 63))

-- What a sample of a severity makes: severity 0 makes no notice, and one that is withheld none that is not above the mark.
abbrev pub valued : ℕ → Bool → ℕ → Showing
valued severity withholds mark = cond (severity == 0 || (withholds && nat_le severity mark)) Quiet (Notice severity)

-- The severity at a frame, with the old before.
abbrev pub severity_at : Meter → Shown → ℕ
severity_at m s = severity m.set_point m.weight s.pages m.old

-- The answer to a frame, by whether it is sampled. Other arguments give no sample.
abbrev pub answered : Meter → Shown → Bool → Showing
answered m s sampled = cond (lawful s && sampled) (valued (severity_at m s) m.withholds s.mark) Unsampled

abbrev pub at : Meter → ℕ → ℕ → Meter
at m old since = record { set_point = m.set_point; weight = m.weight; gap = m.gap; withholds = m.withholds; old = old; since = since }

-- A sample sets old to the pages and since to 0; without one, since grows by the length. Other arguments leave it alone.
abbrev pub moved : Meter → Shown → Bool → Meter
moved m s sampled = cond (lawful s) (cond sampled (at m s.pages 0) (at m m.old (m.since + s.length))) m
