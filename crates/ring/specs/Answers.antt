-- What a call answers. That the memory has not the ring's size is said before anything else.
use Rattle.std.specs.Prelude.{cond, List, [], ◌∷◌, length, Ok, Err, Result, ◌==◌, nat_lt}
use Rattle.ring.specs.declared.fault.RingFault.{RingFault}
use Rattle.ring.specs.declared.fault.RingFault.TheVariants.{Size, Full, Empty}
use Rattle.ring.specs.Standing.{Standing}
use Rattle.ring.specs.Held.{waiting}

-- A push is accepted where fewer items wait than there are places.
abbrev pub push_answer : {T : Type 0} → Standing → List T → Result (Unit {0}) RingFault
push_answer s memory =
    cond (length memory == s.size) (cond (nat_lt s.count s.size) (Ok tt) (Err Full)) (Err Size)

-- The first of the waiting items.
abbrev pub first_of : {T : Type 0} → List T → Result T RingFault
first_of [] = Err Empty
first_of (item ∷ items) = Ok item

-- A pop answers the item that waits longest.
abbrev pub pop_answer : {T : Type 0} → Standing → List T → Result T RingFault
pop_answer s memory = cond (length memory == s.size) (first_of (waiting s memory)) (Err Size)
