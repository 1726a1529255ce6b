-- What writing a text into a buffer answers and leaves there. A text longer than the buffer is refused, and the
-- buffer stays as it was; any other stands at the buffer's beginning, and the rest stays as it was. Assumes nothing.
use Rattle.std.specs.Prelude.{ℕ, Bool, cond, List, ◌++◌, length, drop, Ok, Err, Result, nat_le}
use Rattle.text.specs.declared.writing.NoRoom.{NoRoom}

-- A text fits where it has no more bytes than there is room.
abbrev pub fits : List ℕ → ℕ → Bool
fits text room = nat_le (length text) room

-- The number of bytes written, or the refusal.
abbrev pub room_answer : List ℕ → List ℕ → Result ℕ NoRoom
room_answer text out = cond (fits text (length out)) (Ok (length text)) (Err (record {}))

-- The buffer then.
abbrev pub written : List ℕ → List ℕ → List ℕ
written text out = cond (fits text (length out)) (text ++ drop (length text) out) out

-- Want of room has the number 44 wherever a refusal is shown.
abbrev pub room_number : ℕ
room_number = 44
