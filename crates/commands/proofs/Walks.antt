-- A walk over a line's fields before the one in a place.
use Rattle.std.proofs.Common.{◌≡◌, ℕ, zero, suc, ◌+◌, ◌<◌, ◌≤◌, eqb, List, [], ◌∷◌, length, get_or, take, min, sym, refl, ap, ◌∙◌, inl, inr, add-one, arith}
use Rattle.std.specs.List.{slice_split}
use Rattle.std.proofs.lemmas.Bool.{cases_lt, cond-true, cond-false, lt-ltb, le-ltb}
use Rattle.std.proofs.lemmas.Bool.Decides.{eqb_tells}
use Rattle.std.proofs.lemmas.List.{length-take, get_or-take, get_or_default}
use Rattle.fields.proofs.Cuts.{parts_some}
use Rattle.fields.proofs.Splits.{slice_split-parts}
use Rattle.fields.specs.Parts.{parts}
use Rattle.commands.specs.Columns.{before, column_of}

-- The fields that a walk goes over: those before the place.
abbrev pub passed : List ℕ → ℕ → List (List ℕ)
passed line place = take place (slice_split (λ b. eqb b 32) line)

pub how_many : (line : List ℕ) (place : ℕ) → length (passed line place) ≡ min place (length (parts 32 line))
how_many line place = length-take place (slice_split (λ b. eqb b 32) line) ∙ ap (λ ps. min place (length ps)) (slice_split-parts 32 line)

-- The field that a turn goes over.
pub record Turn (line field : List ℕ) (n : ℕ) : Type 0 where
  pub within : n < length (parts 32 line)
  pub here : field ≡ get_or (parts 32 line) n field

pub turn :
    (line field : List ℕ) (place n : ℕ)
    → (n < length (passed line place)) × (field ≡ get_or (passed line place) n field) → Turn line field n
turn line field place n h =
    let most = how_many line place in
    let before_place : n < place = omega (arith, h.0, most) in
    record {
      within = omega (arith, h.0, most);
      here =
          h.1
          ∙ get_or-take place (slice_split (λ b. eqb b 32) line) n field before_place
          ∙ ap (λ ps. get_or ps n field) (slice_split-parts 32 line);
    }

pub before_none : (fields : List (List ℕ)) → before fields 0 ≡ 0
unfolding before
before_none [] = refl
before_none (f ∷ fields) = refl

before_more :
    (fields : List (List ℕ)) (field : List ℕ) (n : ℕ) → n < length fields → field ≡ get_or fields n field
    → before fields n + (length field + 1) ≡ before fields (suc n)
unfolding before
before_more [] field n h e = absurd (omega arith)
before_more (f ∷ fields) field zero h e = omega (arith, ap length e, before_none fields)
before_more (f ∷ fields) field (suc n) h e = omega (arith, before_more fields field n (omega arith) e)

-- All fields of a line, and the space behind each, are one byte longer than the line.
before_all : (line : List ℕ) → before (parts 32 line) (length (parts 32 line)) ≡ length line + 1
unfolding before
before_all [] = refl
before_all (b ∷ bs) =
    elim (eqb_tells b 32) [
      | inl w ↦ rw w.0 (omega (arith, before_all bs))
      | inr w ↦
          let h = parts_some 32 bs in
          rw (w.0, h.2) (omega (arith, rw h.2 at (before_all bs)))
    ]

-- The first fields take no more than all of them.
before_most : (fields : List (List ℕ)) (n : ℕ) → before fields n ≤ before fields (length fields)
unfolding before
before_most [] n = omega arith
before_most (f ∷ fields) zero = omega arith
before_most (f ∷ fields) (suc n) = omega (arith, before_most fields n)

within_line : (line : List ℕ) (n : ℕ) → before (parts 32 line) n ≤ length line + 1
within_line line n = omega (arith, before_most (parts 32 line) n, before_all line)

-- A turn moves the column behind its field, within the line.
pub moved : (line field : List ℕ) (n column : ℕ) → Turn line field n → column ≡ 1 + before (parts 32 line) n → column + (length field + 1) ≡ 1 + before (parts 32 line) (n + 1)
moved line field n column t so_far = omega (arith, before_more (parts 32 line) field n t.within t.here, ap (λ k. before (parts 32 line) k) (add-one n))

pub short : (line : List ℕ) (n : ℕ) → 1 + before (parts 32 line) n ≤ length line + 2
short line n = omega (arith, within_line line n)

-- A field that a line has begins within the line, or at its end.
begins_within : (line : List ℕ) (n : ℕ) → n < length (parts 32 line) → before (parts 32 line) n ≤ length line
begins_within line n h =
    let field = get_or (parts 32 line) n [] in
    omega (arith, before_more (parts 32 line) field n h (get_or_default (parts 32 line) n [] field h), within_line line (suc n))

-- The place is reached, or the fields end before it.
pub reached :
    (line : List ℕ) (place column : ℕ) → place < length (parts 32 line) → column ≡ 1 + before (parts 32 line) place
    → column ≡ column_of line place
unfolding column_of
reached line place column h e = e ∙ sym (cond-true _ _ _ (lt-ltb place (length (parts 32 line)) h))

pub ended : (line : List ℕ) (place : ℕ) → length (parts 32 line) ≤ place → 1 ≡ column_of line place
unfolding column_of
ended line place h = sym (cond-false _ _ _ (le-ltb place (length (parts 32 line)) h))

-- The column that the walk ends with tells whether there is a field in the place.
pub found :
    (line : List ℕ) (place n column : ℕ) → n ≡ length (passed line place) → column ≡ 1 + before (parts 32 line) n → column ≤ length line + 1
    → column ≡ column_of line place
found line place n column all so_far le =
    elim (cases_lt place (length (parts 32 line))) [
      | inl there ↦
          let whole : n ≡ place = omega (arith, all, how_many line place) in
          reached line place column there (so_far ∙ ap (λ k. 1 + before (parts 32 line) k) whole)
      | inr none ↦
          let whole : n ≡ length (parts 32 line) = omega (arith, all, how_many line place) in
          absurd (omega (arith, so_far, ap (λ k. before (parts 32 line) k) whole, before_all line))
    ]

pub missed :
    (line : List ℕ) (place n column : ℕ) → n ≡ length (passed line place) → column ≡ 1 + before (parts 32 line) n → length line + 1 < column
    → 1 ≡ column_of line place
missed line place n column all so_far more =
    elim (cases_lt place (length (parts 32 line))) [
      | inl there ↦
          let within : n < length (parts 32 line) = omega (arith, all, how_many line place) in
          absurd (omega (arith, so_far, begins_within line n within))
      | inr none ↦ ended line place none
    ]
