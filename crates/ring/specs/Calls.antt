-- One call, whichever it is: what it answers, and what it leaves.
use Rattle.std.specs.Prelude.{cond, List, is_ok, Ok, Err, Result, slice_set}
use Rattle.ring.specs.declared.fault.RingFault.{RingFault}
use Rattle.ring.specs.declared.calls.Call.{Call}
use Rattle.ring.specs.declared.calls.Call.TheVariants.{Push, Pop}
use Rattle.ring.specs.declared.calls.Answer.{Answer}
use Rattle.ring.specs.declared.calls.Answer.TheVariants.{Accepted, Taken}
use Rattle.ring.specs.Standing.{Standing, pushed, popped, tail_place}
use Rattle.ring.specs.Answers.{push_answer, pop_answer}

-- What a push and a pop answered, as the answer of a call.
abbrev pub of_push : {T : Type 0} → Result (Unit {0}) RingFault → Result (Answer T) RingFault
of_push (Ok u) = Ok Accepted
of_push (Err fault) = Err fault

abbrev pub of_pop : {T : Type 0} → Result T RingFault → Result (Answer T) RingFault
of_pop (Ok item) = Ok (Taken item)
of_pop (Err fault) = Err fault

abbrev pub answer_to : {T : Type 0} → Standing → List T → Call T → Result (Answer T) RingFault
answer_to s memory (Push item) = of_push (push_answer s memory)
answer_to s memory Pop = of_pop (pop_answer s memory)

abbrev pub standing_after : {T : Type 0} → Standing → List T → Call T → Standing
standing_after s memory (Push item) = cond (is_ok (push_answer s memory)) (pushed s) s
standing_after s memory Pop = cond (is_ok (pop_answer s memory)) (popped s) s

-- Only a push that is accepted writes, and only at the tail's place.
abbrev pub memory_after : {T : Type 0} → Standing → List T → Call T → List T
memory_after s memory (Push item) = cond (is_ok (push_answer s memory)) (slice_set memory (tail_place s) item) memory
memory_after s memory Pop = memory
