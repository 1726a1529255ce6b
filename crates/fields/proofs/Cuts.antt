use Rattle.std.proofs.Common.{◌≡◌, ◌≢◌, ℕ, ◌+◌, ◌<◌, ◌≤◌, eqb, List, [], ◌∷◌, ◌++◌, length, get_or, take, drop, Option, sym, refl, ap, ◌∙◌, subst, inl, inr, arith}
use Rattle.std.specs.List.{position, position_or_len}
use Rattle.std.proofs.lemmas.Bool.{cases_lt, cond-true, cond-false, lt-ltb, le-ltb, eqb-true, eq-eqb, true≢false}
use Rattle.std.proofs.lemmas.Bool.Decides.{eqb_tells}
use Rattle.std.proofs.lemmas.List.{length-take, get_or-take}
use Rattle.std.proofs.lemmas.List.Splits.{slice_split_none, slice_split_first}
use Rattle.std.proofs.lemmas.List.Sums.{split_at_first, fails_before_first, passes_at_first}
use Rattle.fields.proofs.Splits.{slice_split-parts}
use Rattle.fields.specs.Parts.{parts}
use Rattle.fields.specs.Separators.{Stands, Lacks, First}

-- Where the first separator stands, or the length where there is none.
abbrev first : ℕ → List ℕ → ℕ
first s xs = position_or_len (λ b. eqb b s) xs

-- No separator stands before the first.
clear_before : (s : ℕ) (xs : List ℕ) (k : ℕ) → k < first s xs → get_or xs k 0 ≢ s
clear_before s xs k h q = true≢false (sym (eq-eqb _ _ q) ∙ fails_before_first (λ b. eqb b s) xs k 0 h)

stands : (s : ℕ) (xs : List ℕ) → first s xs < length xs → Stands s xs (first s xs)
stands s xs h =
    let n = first s xs in
    let separator : get_or xs n 0 ≡ s = eqb-true _ _ (passes_at_first (λ b. eqb b s) xs 0 h) in
    record {
      within = h;
      free = λ k l q. let m : k < n = omega (arith, length-take n xs) in clear_before s xs k m (sym (get_or-take n xs k 0 m) ∙ q);
      joins = split_at_first (λ b. eqb b s) xs 0 h ∙ ap (λ x. take n xs ++ (x ∷ drop (n + 1) xs)) separator;
      cuts =
          sym (slice_split-parts s xs)
          ∙ slice_split_first (λ b. eqb b s) xs 0 h
          ∙ ap (λ ps. take n xs ∷ ps) (slice_split-parts s (drop (n + 1) xs));
    }

lacks : (s : ℕ) (xs : List ℕ) → length xs ≤ first s xs → Lacks s xs
lacks s xs h = record {
  free = λ k l. clear_before s xs k (omega arith);
  whole = sym (slice_split-parts s xs) ∙ slice_split_none (λ b. eqb b s) xs (λ k d l. fails_before_first (λ b. eqb b s) xs k d (omega arith));
}

-- What the library's search finds: the first separator, or none.
pub First-position : (s : ℕ) (xs : List ℕ) (found : Option ℕ) → found ≡ position (λ b. eqb b s) xs → First s xs found
First-position s xs found e =
    elim (cases_lt (first s xs) (length xs)) [
      | inl h ↦ subst (First s xs) (sym (e ∙ cond-true _ _ _ (lt-ltb _ _ h))) (stands s xs h)
      | inr h ↦ subst (First s xs) (sym (e ∙ cond-false _ _ _ (le-ltb _ _ h))) (lacks s xs h)
    ]

-- Every text has a first part.
pub parts_some : (s : ℕ) (xs : List ℕ) → (p : List ℕ) × (ps : List (List ℕ)) × (parts s xs ≡ p ∷ ps)
parts_some s [] = ([], [], refl)
parts_some s (x ∷ xs) =
    let h = parts_some s xs in
    elim (eqb_tells x s) [
      | inl w ↦ ([], parts s xs, rw w.0 refl)
      | inr w ↦ (x ∷ h.0, h.1, rw (w.0, h.2) refl)
    ]
