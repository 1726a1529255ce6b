-- Runs: calls in a row, each from the tally that the one before left.
use Rattle.std.specs.Prelude.{◌≡◌, ◌+◌, ◌≤◌, Bool, false, List, [], ◌∷◌, None, Result}
use Rattle.tally.specs.declared.call.Answer.{Answer}
use Rattle.tally.specs.declared.fault.CallFault.{CallFault}
use Rattle.tally.specs.Offering.{offer_refused}
use Rattle.tally.specs.Steps.{Asked, offer, leave, deliver, receive, wait, answer_to, tally_after}
use Rattle.tally.specs.Tally.{Constants, Tally}

-- One call: the tally before it, what was asked and answered, and the tally after it.
pub record Moment : Type 0 where
  pub before : Tally
  pub asked : Asked
  pub answer : Result Answer CallFault
  pub after : Tally

-- Not to sample an accepted frame is open only where the bytes since the last sample stay within the gap.
abbrev pub Open : Constants → Tally → Asked → Bool → Type 0
Open K t (offer who n) sampled = offer_refused K t who n ≡ None → sampled ≡ false → t.since + n ≤ K.gap
Open K t leave sampled = Unit {0}
Open K t deliver sampled = Unit {0}
Open K t (receive bytes) sampled = Unit {0}
Open K t (wait n) sampled = Unit {0}

-- A moment that the rules allow: the answer and the tally after follow from the tally before, the call, and whether the notifier samples.
pub record Step (K : Constants) (m : Moment) : Type 0 where
  pub sampled : Bool
  pub open_choice : Open K m.before m.asked sampled
  pub answers : m.answer ≡ answer_to K m.before m.asked sampled
  pub moves : m.after ≡ tally_after K m.before m.asked sampled

-- Moments in a row, from one tally to another.
abbrev pub Run : Constants → Tally → List Moment → Tally → Type 0
Run K t [] u = t ≡ u
Run K t (m ∷ ms) u = (m.before ≡ t) × Step K m × Run K m.after ms u

-- The relation is not empty: every call can be made from every tally. And it is not too weak: the same call from the same tally with the same choice has one answer and one tally after it.
pub record Definite (K : Constants) : Type 0 where
  pub some_step : (t : Tally) (a : Asked) → (m : Moment) × (m.before ≡ t) × (m.asked ≡ a) × Step K m
  pub one_step :
      (m n : Moment) (p : Step K m) (q : Step K n) → m.before ≡ n.before → m.asked ≡ n.asked → p.sampled ≡ q.sampled
      → (m.answer ≡ n.answer) × (m.after ≡ n.after)
