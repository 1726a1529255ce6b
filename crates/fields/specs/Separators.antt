use Rattle.std.specs.Prelude.{◌≡◌, ℕ, ◌+◌, ◌<◌, List, [], ◌∷◌, ◌++◌, length, take, drop, Some, None, Option}
use Rattle.fields.specs.Parts.{parts, Free}

-- The first separator of a text stands at i: the text is cut there.
pub record Stands (separator : ℕ) (text : List ℕ) (i : ℕ) : Type 0 where
  pub within : i < length text
  pub free : Free separator (take i text)
  pub joins : text ≡ take i text ++ (separator ∷ drop (i + 1) text)
  pub cuts : parts separator text ≡ take i text ∷ parts separator (drop (i + 1) text)

-- A text holds no separator: it is one part.
pub record Lacks (separator : ℕ) (text : List ℕ) : Type 0 where
  pub free : Free separator text
  pub whole : parts separator text ≡ text ∷ []

-- Where the first separator stands, if there is one.
abbrev pub First : ℕ → List ℕ → Option ℕ → Type 0
First separator text None = Lacks separator text
First separator text (Some i) = Stands separator text i
