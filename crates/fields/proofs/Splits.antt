use Rattle.std.proofs.Common.{◌≡◌, ℕ, eqb, List, [], ◌∷◌, refl}
use Rattle.std.specs.List.{slice_split, onto_first}
use Rattle.fields.specs.Parts.{parts, begun}

same_begun : (b : ℕ) (ps : List (List ℕ)) → onto_first b ps ≡ begun b ps
same_begun b [] = refl
same_begun b (p ∷ ps) = refl

-- The library's word for the parts of a text.
pub slice_split-parts : (separator : ℕ) (text : List ℕ) → slice_split (λ b. eqb b separator) text ≡ parts separator text
slice_split-parts separator [] = refl
slice_split-parts separator (b ∷ bs) = rw (slice_split-parts separator bs, same_begun b (parts separator bs)) refl
