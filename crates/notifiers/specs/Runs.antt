-- What a notifier does over a whole list of frames.
use Rattle.std.specs.Prelude.{◌≡◌, ℕ, ◌+◌, ◌<◌, ◌≤◌, Bool, true, cond, List, [], ◌∷◌}
use Rattle.notifiers.specs.declared.shown.Shown.{Shown}
use Rattle.notifiers.specs.declared.shown.Showing.{Showing}
use Rattle.notifiers.specs.declared.shown.Showing.TheVariants.{Unsampled, Quiet, Notice}
use Rattle.notifiers.specs.Meter.{Meter, lawful, answered}
use Rattle.notifiers.specs.Severity.{severity}

-- The answers to the frames, one after another, and the notifier after them.
module _ {N : Type 0} (meter : N → Meter) (samples : N → Shown → Bool) (next : N → Shown → N) where
  unfoldable pub answers : N → List Shown → List Showing
  answers x [] = []
  answers x (s ∷ ss) = answered (meter x) s (samples x s) ∷ answers (next x s) ss

  unfoldable pub after_all : N → List Shown → N
  after_all x [] = x
  after_all x (s ∷ ss) = after_all (next x s) ss

-- What was sampled.
abbrev pub Sampled : Showing → Type 0
Sampled Unsampled = ⊥
Sampled Quiet = Unit {0}
Sampled (Notice v) = Unit {0}

-- The bytes of lawful frames since the last sample, after one more frame.
abbrev pub counted : ℕ → Shown → Showing → ℕ
counted since s Unsampled = cond (lawful s) (since + s.length) since
counted since s Quiet = 0
counted since s (Notice v) = 0

-- At every frame, the bytes of lawful frames since the last sample are at most the gap.
abbrev pub GapKept : ℕ → ℕ → List Shown → List Showing → Type 0
GapKept gap since [] answers = since ≤ gap
GapKept gap since (s ∷ ss) [] = since ≤ gap
GapKept gap since (s ∷ ss) (a ∷ answers) = (since ≤ gap) × GapKept gap (counted since s a) ss answers

-- The pages at the last sample, after one more frame.
abbrev pub last_pages : ℕ → Shown → Showing → ℕ
last_pages old s Unsampled = old
last_pages old s Quiet = s.pages
last_pages old s (Notice v) = s.pages

-- A sample whose severity is above the mark made a notice of exactly that severity.
abbrev pub Told : ℕ → ℕ → ℕ → List Shown → List Showing → Type 0
Told Q W old [] answers = Unit {0}
Told Q W old (s ∷ ss) [] = Unit {0}
Told Q W old (s ∷ ss) (a ∷ answers) =
    (Sampled a → s.mark < severity Q W s.pages old → a ≡ Notice (severity Q W s.pages old)) × Told Q W (last_pages old s a) ss answers

-- A notice is above its mark.
abbrev pub Above : Shown → Showing → Type 0
Above s Unsampled = Unit {0}
Above s Quiet = Unit {0}
Above s (Notice v) = s.mark < v

abbrev pub AllAbove : List Shown → List Showing → Type 0
AllAbove [] answers = Unit {0}
AllAbove (s ∷ ss) [] = Unit {0}
AllAbove (s ∷ ss) (a ∷ answers) = Above s a × AllAbove ss answers

-- The promises of any notifier over any frames; the last is for one that withholds.
pub record Kept (m : Meter) (frames : List Shown) (answers : List Showing) : Type 0 where
  pub gap_kept : GapKept m.gap 0 frames answers
  pub told : Told m.set_point m.weight m.old frames answers
  pub above : m.withholds ≡ true → AllAbove frames answers
