-- What is counted and listed over a run, from the calls and their answers.
use Rattle.std.specs.Prelude.{ℕ, ◌+◌, cond, List, [], ◌∷◌, take, Ok, Err, Result, ◌==◌, slice_index_or}
use Rattle.limiters.specs.Bounds.{earnings}
use Rattle.limiters.specs.Step.{charge}
use Rattle.limiters.specs.declared.limiter.Identity.{Identity}
use Rattle.limiters.specs.declared.limiter.Limiter.TheVariants.{Free}
use Rattle.tally.specs.declared.call.Answer.{Answer}
use Rattle.tally.specs.declared.call.Answer.TheVariants.{Accepted, Left, Heard, Waited}
use Rattle.tally.specs.declared.call.Offered.{Offered}
use Rattle.tally.specs.declared.call.Offered.TheVariants.{Unsampled, Quiet, Waiting, Overrun}
use Rattle.tally.specs.declared.call.Outcome.{Outcome}
use Rattle.tally.specs.declared.call.Outcome.TheVariants.{Applied, Unplaced, Ignored}
use Rattle.tally.specs.declared.fault.CallFault.{CallFault}
use Rattle.tally.specs.declared.notice.Notice.{Notice}
use Rattle.tally.specs.Offering.{noticing}
use Rattle.tally.specs.Runs.{Moment}
use Rattle.tally.specs.Steps.{Asked, offer, leave, deliver, receive, wait}
use Rattle.tally.specs.Tally.{Constants}

-- What an answer says of an offer, and of a deliver; nothing where it is none of theirs.
abbrev pub of_offer : {X : Type 0} → X → (Offered → X) → Result Answer CallFault → X
of_offer none f (Ok (Accepted o)) = f o
of_offer none f (Ok (Left x)) = none
of_offer none f (Ok (Heard x)) = none
of_offer none f (Ok (Waited x)) = none
of_offer none f (Err e) = none

abbrev pub of_notice : {X : Type 0} → X → (Outcome → X) → Result Answer CallFault → X
of_notice none f (Ok (Accepted x)) = none
of_notice none f (Ok (Left x)) = none
of_notice none f (Ok (Heard o)) = f o
of_notice none f (Ok (Waited x)) = none
of_notice none f (Err e) = none

-- A notice that was made waits or is overrun.
abbrev pub made_by : Offered → ℕ
made_by Unsampled = 0
made_by Quiet = 0
made_by (Waiting v) = 1
made_by (Overrun v) = 1

abbrev pub overrun_by : Offered → ℕ
overrun_by Unsampled = 0
overrun_by Quiet = 0
overrun_by (Waiting v) = 0
overrun_by (Overrun v) = 1

abbrev pub applied_by : Outcome → ℕ
applied_by (Applied slot now') = 1
applied_by (Unplaced who) = 0
applied_by Ignored = 0

abbrev pub unplaced_by : Outcome → ℕ
unplaced_by (Applied slot now') = 0
unplaced_by (Unplaced who) = 1
unplaced_by Ignored = 0

-- Notices made, and overrun, at an offer.
abbrev pub made_at : Moment → ℕ
made_at m = of_offer 0 made_by m.answer

abbrev pub overrun_at : Moment → ℕ
overrun_at m = of_offer 0 overrun_by m.answer

-- What a deliver says; a receive is not counted, since its notice was not made here.
abbrev pub at_deliver : {X : Type 0} → X → (Outcome → X) → Asked → Result Answer CallFault → X
at_deliver none f (offer who n) a = none
at_deliver none f leave a = none
at_deliver none f deliver a = of_notice none f a
at_deliver none f (receive bytes) a = none
at_deliver none f (wait n) a = none

-- Notices applied, and unplaced, at a deliver.
abbrev pub applied_at : Moment → ℕ
applied_at m = at_deliver 0 applied_by m.asked m.answer

abbrev pub unplaced_at : Moment → ℕ
unplaced_at m = at_deliver 0 unplaced_by m.asked m.answer

-- The notice that joins the wire at a moment, if one does.
abbrev pub joining : Identity → Offered → List Notice
joining who Unsampled = []
joining who Quiet = []
joining who (Waiting v) = noticing who v ∷ []
joining who (Overrun v) = []

abbrev pub joins_by : Asked → Result Answer CallFault → List Notice
joins_by (offer who n) a = of_offer [] (joining who) a
joins_by leave a = []
joins_by deliver a = []
joins_by (receive bytes) a = []
joins_by (wait n) a = []

abbrev pub joins_at : Moment → List Notice
joins_at m = joins_by m.asked m.answer

-- The notice that a deliver takes off: the oldest.
abbrev pub takes_at : Moment → List Notice
takes_at m = at_deliver [] (λ _. take 1 m.before.notices) m.asked m.answer

-- The bytes accepted since the last sample, after one more moment, and after a run.
abbrev pub since_offer : ℕ → ℕ → Offered → ℕ
since_offer since n Unsampled = since + n
since_offer since n Quiet = 0
since_offer since n (Waiting v) = 0
since_offer since n (Overrun v) = 0

abbrev pub since_by : ℕ → Asked → Result Answer CallFault → ℕ
since_by since (offer who n) a = of_offer since (since_offer since n) a
since_by since leave a = since
since_by since deliver a = since
since_by since (receive bytes) a = since
since_by since (wait n) a = since

abbrev pub bytes_since : ℕ → List Moment → ℕ
bytes_since since [] = since
bytes_since since (m ∷ ms) = bytes_since (since_by since m.asked m.answer) ms

-- What a flow's accepted frame is charged at a moment.
abbrev pub charged_by : Identity → Asked → Result Answer CallFault → ℕ
charged_by who (offer other n) a = of_offer 0 (λ _. cond (other.flow == who.flow) (charge n) 0) a
charged_by who leave a = 0
charged_by who deliver a = 0
charged_by who (receive bytes) a = 0
charged_by who (wait n) a = 0

abbrev pub charged_at : Identity → Moment → ℕ
charged_at who m = charged_by who m.asked m.answer

-- The microseconds that a call waited.
abbrev pub of_wait : ℕ → Result Answer CallFault → ℕ
of_wait n (Ok (Accepted x)) = 0
of_wait n (Ok (Left x)) = 0
of_wait n (Ok (Heard x)) = 0
of_wait n (Ok (Waited x)) = n
of_wait n (Err e) = 0

abbrev pub waited_by : Asked → Result Answer CallFault → ℕ
waited_by (offer who n) a = 0
waited_by leave a = 0
waited_by deliver a = 0
waited_by (receive bytes) a = 0
waited_by (wait n) a = of_wait n a

-- What a slot earns at a moment: its current rate summed over each microsecond waited, as it is when that begins.
abbrev pub earned_at : Constants → ℕ → Moment → ℕ
earned_at K i m = earnings K.rule K.settings.figures (waited_by m.asked m.answer) (slice_index_or m.before.slots i Free)
