use Rattle.std.specs.Prelude.{ℕ, List, [], ◌∷◌, Some, None, Option}

-- The letter that a field is, where it is one byte.
abbrev pub letter_of : List ℕ → Option ℕ
letter_of [] = None
letter_of (letter ∷ []) = Some letter
letter_of (a ∷ (b ∷ rest)) = None
