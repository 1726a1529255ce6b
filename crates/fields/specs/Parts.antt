use Rattle.std.specs.Prelude.{ℕ, ◌+◌, ◌<◌, cond, List, [], ◌∷◌, length, Some, None, Option, ◌==◌, ◌≢◌, slice_index}
use Rattle.std.specs.Borrow.{Bor}

-- One more byte in front of the first part.
abbrev pub begun : ℕ → List (List ℕ) → List (List ℕ)
begun b [] = (b ∷ []) ∷ []
begun b (p ∷ ps) = (b ∷ p) ∷ ps

-- The parts of a text: each separator ends one part and begins the next, so that there is always one part
-- more than there are separators.
abbrev pub parts : ℕ → List ℕ → List (List ℕ)
parts separator [] = [] ∷ []
parts separator (b ∷ bs) = cond (b == separator) ([] ∷ parts separator bs) (begun b (parts separator bs))

-- The parts of what follows a separator, and none where no separator came.
abbrev pub parts_after : ℕ → Option (Bor (List ℕ)) → List (List ℕ)
parts_after separator None = []
parts_after separator (Some rest) = parts separator rest.now

-- The separator and what follows it, and nothing where no separator came.
abbrev pub bytes_after : ℕ → Option (Bor (List ℕ)) → List ℕ
bytes_after separator None = []
bytes_after separator (Some rest) = separator ∷ rest.now

-- How far the cutting has still to go: over a text's bytes and its end, and nowhere where no text is left.
abbrev pub remaining : Option (Bor (List ℕ)) → ℕ
remaining None = 0
remaining (Some rest) = length rest.now + 1

-- No byte of a text is the separator.
abbrev pub Free : ℕ → List ℕ → Type 0
Free separator text = (k : ℕ) → k < length text → slice_index text k ≢ separator
