use Rattle.std.proofs.Common.{◌≡◌, drop, vec_items, vec_len, vec_capacity}
use Rattle.ring.specs.Standing.{standing_of}
use Rattle.ring.proofs.Playing.{SoFar}
use Rattle.ring.proofs.calls.replay.Given as goal

abbrev pub invariant-loop-call : goal.invariant-loop-call
invariant-loop-call g l =
    SoFar (vec_items l.answers) (standing_of l.ring) l.memory (drop l.call-index l.calls) (standing_of l.fn.ring) l.fn.memory l.calls
    × (vec_len l.answers ≡ l.call-index)
    × (vec_capacity l.answers ≡ vec_capacity l.initial.answers)
