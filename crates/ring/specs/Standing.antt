-- Where a ring stands, apart from what its memory holds.
use Rattle.std.specs.Prelude.{ℕ, ◌+◌, ◌-◌, cond, nat_lt}
use Rattle.ring.specs.declared.fifo.Ring.{Ring}

-- The place of the oldest item, how many items wait, and how many places there are.
pub record Standing : Type 0 where
  pub head : ℕ
  pub count : ℕ
  pub size : ℕ

abbrev pub standing_of : Ring → Standing
standing_of r = record { head = r.head; count = r.count; size = r.size }

-- A new ring: nothing waits, and the first item will lie at the first place.
abbrev pub fresh : ℕ → Standing
fresh n = record { head = 0; count = 0; size = n }

-- The place after a place: the one beside it, and the first after the last.
abbrev pub next_place : ℕ → ℕ → ℕ
next_place size place = cond (nat_lt (place + 1) size) (place + 1) 0

-- The place behind the waiting items: as many places after the head as items wait, going on at the first after the last.
abbrev pub tail_place : Standing → ℕ
tail_place s = cond (nat_lt (s.head + s.count) s.size) (s.head + s.count) (s.head + s.count - s.size)

-- One more item waits, behind the others.
abbrev pub pushed : Standing → Standing
pushed s = record { head = s.head; count = s.count + 1; size = s.size }

-- The oldest item waits no more.
abbrev pub popped : Standing → Standing
popped s = record { head = next_place s.size s.head; count = s.count - 1; size = s.size }
