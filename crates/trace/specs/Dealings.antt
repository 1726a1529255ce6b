-- The calls of a trace are a run of the tally.
use Rattle.std.specs.Prelude.{◌≡◌, ℕ, List, [], ◌∷◌, ◌++◌, map, Ok, Err, Result}
use Rattle.commands.specs.Commands.{said as said_by}
use Rattle.commands.specs.Said.{Said}
use Rattle.commands.specs.Said as said
use Rattle.commands.specs.declared.misread.Misread.{Misread}
use Rattle.line.specs.Calls.{answer_of}
use Rattle.line.specs.Holds.{Holds}
use Rattle.tally.specs.Promises.{Promises}
use Rattle.tally.specs.Runs.{Moment, Run}
use Rattle.tally.specs.Steps as asked
use Rattle.tally.specs.Steps.{Asked}
use Rattle.tally.specs.Tally.{Constants, Tally, opened}
use Rattle.tally.specs.declared.call.Answer.{Answer}
use Rattle.tally.specs.declared.fault.CallFault.{CallFault}
use Rattle.trace.specs.Session.{Serving, Situation, shut, serving, beginning, identity, bytes_of, rule_meaning, notifier_meaning}
use Rattle.trace.specs.Transcript.{line_after, lines_of}

-- A call with its answer.
pub record Dealing : Type 0 where
  pub asked : Asked
  pub answer : Result Answer CallFault

-- The call that a command makes on a line in service; flows' rates and columns are only read.
abbrev pub calls_by : Said → List Asked
calls_by (said.opens o) = []
calls_by (said.offers flow n) = asked.offer (identity flow) n ∷ []
calls_by said.leaves = asked.leave ∷ []
calls_by said.delivers = asked.deliver ∷ []
calls_by (said.receives digits) = asked.receive (bytes_of digits) ∷ []
calls_by (said.waits n) = asked.wait n ∷ []
calls_by (said.rates flow) = []
calls_by said.columns = []

abbrev pub calls_read : Result Said Misread → List Asked
calls_read (Ok c) = calls_by c
calls_read (Err m) = []

abbrev pub dealing : Serving → Asked → Dealing
dealing s a = record { asked = a; answer = answer_of rule_meaning notifier_meaning s a }

abbrev pub dealings_at : Situation → List ℕ → List Dealing
dealings_at (shut frames wire) line = []
dealings_at (serving s) line = map (dealing s) (calls_read (said_by line))

-- All calls of a trace's lines, with their answers, in order; and where they leave the line.
unfoldable pub dealings : Situation → List (List ℕ) → List Dealing
dealings s [] = []
dealings s (l ∷ ls) = dealings_at s l ++ dealings (line_after s l) ls

unfoldable pub ending : Situation → List (List ℕ) → Situation
ending s [] = s
ending s (l ∷ ls) = ending (line_after s l) ls

abbrev pub dealing_in : Moment → Dealing
dealing_in m = record { asked = m.asked; answer = m.answer }

-- They are a run of a tally from its opening, the line holds the tally at its end, and the promises hold of it.
pub record Kept (s : Serving) (all : List Dealing) : Type 0 where
  pub constants : Constants
  pub moments : List Moment
  pub last : Tally
  pub run : Run constants (opened 0) moments last
  pub holds : Holds rule_meaning notifier_meaning constants s last
  pub deals : map dealing_in moments ≡ all
  pub promises : Promises constants moments last

abbrev pub KeptAt : Situation → List Dealing → Type 0
KeptAt (shut frames wire) all = all ≡ []
KeptAt (serving s) all = Kept s all

abbrev pub TraceKept : List ℕ → Type 0
TraceKept trace = KeptAt (ending beginning (lines_of trace)) (dealings beginning (lines_of trace))
