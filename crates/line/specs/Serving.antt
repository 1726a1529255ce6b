-- A whole list of calls.
use Rattle.std.specs.Prelude.{◌≡◌, ℕ, min, List, map, length, Result}
use Rattle.rates.specs.declared.regime.Regime.{Regime}
use Rattle.rates.specs.declared.rate_rule.RateRule.{Ghosts as RuleGhosts}
use Rattle.notifiers.specs.declared.notifier.Notifier.{Ghosts as NotifierGhosts}
use Rattle.tally.specs.Promises.{Promises}
use Rattle.tally.specs.Runs.{Moment, Run}
use Rattle.tally.specs.Steps.{Asked}
use Rattle.tally.specs.Tally.{Constants, Tally, opened}
use Rattle.tally.specs.declared.call.Answer.{Answer}
use Rattle.tally.specs.declared.fault.CallFault.{CallFault}
use Rattle.tally.specs.declared.frame.Frame.{Frame}
use Rattle.tally.specs.declared.notice.Notice.{Notice}
use Rattle.line.specs.Holds.{Holds}
use Rattle.line.specs.Opening.{Fixed}
use Rattle.line.specs.State.{State}

abbrev pub asked_in : Moment → Asked
asked_in m = m.asked

abbrev pub answer_in : Moment → Result Answer CallFault
answer_in m = m.answer

-- As many calls are made as there are places for their answers.
abbrev pub made_of : {X Y : Type 0} → List X → List Y → ℕ
made_of calls places = min (length calls) (length places)

module _ {R N : Type 0} (rr : RuleGhosts R) (nn : NotifierGhosts N) where
  -- Calls that took a line from a state that holds a tally to another: they and their answers are a run from that tally, and the line holds the tally at its end.
  pub record Ran (K : Constants) (t : Tally) (asked : List Asked) (answers : List (Result Answer CallFault)) (end : State R N) : Type 0 where
    pub moments : List Moment
    pub last : Tally
    pub run : Run K t moments last
    pub asks : map asked_in moments ≡ asked
    pub told : map answer_in moments ≡ answers
    pub holds : Holds rr nn K end last

  -- Whatever tally was held before them.
  abbrev pub Runs : State R N → List Asked → List (Result Answer CallFault) → State R N → Type 0
  Runs start asked answers end = (K : Constants) (t : Tally) → Holds rr nn K start t → Ran K t asked answers end

  -- The same of a line that was opened with all this: a run from the opening, of which the promises hold.
  pub record Served (regime : Regime R) (notifier : N) (frames : List Frame) (wire : List Notice) (asked : List Asked) (answers : List (Result Answer CallFault)) (end : State R N) : Type 0 where
    pub constants : Constants
    pub fixed : Fixed regime notifier frames wire rr nn constants
    pub ran : Ran constants (opened (nn.meter notifier).old) asked answers end
    pub promises : Promises constants ran.moments ran.last
