-- Where the fields of a line begin.
use Rattle.std.specs.Prelude.{ℕ, zero, suc, ◌+◌, cond, List, [], ◌∷◌, length, nat_lt}
use Rattle.fields.specs.Parts.{parts}

-- The bytes before a field: each field before it, and the space behind each.
unfoldable pub before : List (List ℕ) → ℕ → ℕ
before [] place = 0
before (field ∷ fields) zero = 0
before (field ∷ fields) (suc place) = length field + 1 + before fields place

-- The column of a field, from 1: it is 1 + the sum of (length + 1) over the fields before it.
abbrev pub column : List (List ℕ) → ℕ → ℕ
column fields place = 1 + before fields place

-- The column of a field of a line, whose fields have one space (32) between them; 1 where there is no such field.
unfoldable pub column_of : List ℕ → ℕ → ℕ
column_of line place = cond (nat_lt place (length (parts 32 line))) (column (parts 32 line) place) 1
