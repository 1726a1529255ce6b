-- What waits in a ring.
use Rattle.std.specs.Prelude.{ℕ, List, ◌++◌, take, drop}
use Rattle.ring.specs.Standing.{Standing, standing_of}
use Rattle.ring.specs.declared.fifo.Ring.{Ring}

-- A memory as it is seen from a place: from there to its end, and then from its beginning to there.
unfoldable pub turned : {T : Type 0} → ℕ → List T → List T
turned place memory = drop place memory ++ take place memory

-- The waiting items, oldest first: as many as are counted, from the head on.
abbrev pub waiting : {T : Type 0} → Standing → List T → List T
waiting s memory = take s.count (turned s.head memory)

abbrev pub held : {T : Type 0} → Ring → List T → List T
held ring memory = waiting (standing_of ring) memory
