-- What one step of measuring and one step of writing do. Assumes nothing.
use Rattle.std.specs.Prelude.{ℕ, ◌+◌, ◌-◌, cond, List, ◌++◌, length, take, drop, Some, None, Option}
use Rattle.text.specs.Room.{fits}

-- The room behind a text, where it fits.
abbrev pub left_after : List ℕ → ℕ → Option ℕ
left_after text room = cond (fits text room) (Some (room - length text)) None

-- A buffer with a text over its bytes from a place on.
abbrev pub pasted : List ℕ → ℕ → List ℕ → List ℕ
pasted out at text = take at out ++ (text ++ drop (at + length text) out)
