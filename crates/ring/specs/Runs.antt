-- A whole list of calls.
use Rattle.std.specs.Prelude.{List, [], ◌∷◌, ◌++◌, Ok, Err, Result}
use Rattle.ring.specs.declared.calls.Call.{Call}
use Rattle.ring.specs.declared.calls.Call.TheVariants.{Push, Pop}
use Rattle.ring.specs.declared.calls.Answer.{Answer}
use Rattle.ring.specs.declared.calls.Answer.TheVariants.{Accepted, Taken}
use Rattle.ring.specs.declared.fault.RingFault.{RingFault}
use Rattle.ring.specs.Standing.{Standing}
use Rattle.ring.specs.Calls.{answer_to, standing_after, memory_after}

-- The answers, each to what the calls before it left, and where the ring stands and what its memory holds after the last.
unfoldable pub answers_to : {T : Type 0} → Standing → List T → List (Call T) → List (Result (Answer T) RingFault)
answers_to s memory [] = []
answers_to s memory (c ∷ calls) = answer_to s memory c ∷ answers_to (standing_after s memory c) (memory_after s memory c) calls

unfoldable pub standing_at_end : {T : Type 0} → Standing → List T → List (Call T) → Standing
standing_at_end s memory [] = s
standing_at_end s memory (c ∷ calls) = standing_at_end (standing_after s memory c) (memory_after s memory c) calls

unfoldable pub memory_at_end : {T : Type 0} → Standing → List T → List (Call T) → List T
memory_at_end s memory [] = memory
memory_at_end s memory (c ∷ calls) = memory_at_end (standing_after s memory c) (memory_after s memory c) calls

-- The items that were taken off, in order.
abbrev pub taken_by : {T : Type 0} → Result (Answer T) RingFault → List T
taken_by (Ok Accepted) = []
taken_by (Ok (Taken item)) = item ∷ []
taken_by (Err fault) = []

unfoldable pub taken_off : {T : Type 0} → List (Result (Answer T) RingFault) → List T
taken_off [] = []
taken_off (a ∷ answers) = taken_by a ++ taken_off answers

-- The items that were put in, in order: those of the pushes that were accepted.
abbrev pub put_by : {T : Type 0} → Call T → Result (Answer T) RingFault → List T
put_by (Push item) (Ok Accepted) = item ∷ []
put_by (Push item) (Ok (Taken other)) = []
put_by (Push item) (Err fault) = []
put_by Pop answer = []

unfoldable pub put_in : {T : Type 0} → List (Call T) → List (Result (Answer T) RingFault) → List T
put_in [] answers = []
put_in (c ∷ calls) [] = []
put_in (c ∷ calls) (a ∷ answers) = put_by c a ++ put_in calls answers
