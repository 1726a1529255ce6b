-- The rows of the slots so far, and of those to come.
use Rattle.std.proofs.lemmas.Grind.{common_steps}
use Rattle.std.proofs.Common.{◌≡◌, ℕ, ◌+◌, ◌<◌, ◌≤◌, List, [], ◌∷◌, ◌++◌, length, get_or, drop, Some, None, sym, ap, ◌∙◌, arith}
use Rattle.std.proofs.lemmas.List.{append_assoc, drop_more}
use Rattle.limiters.specs.declared.limiter.Identity.{Identity}
use Rattle.limiters.specs.declared.limiter.Limiter.{Limiter}
use Rattle.limiters.specs.declared.limiter.Limiter.TheVariants.{Free}
use Rattle.limiters.specs.Table.{served}
use Rattle.line.specs.declared.listing.ListedRow.{ListedRow}
use Rattle.line.specs.Reading.{listed, listed_at}

at_none : (i : ℕ) (l : Limiter) (rows : List ListedRow) → None ≡ served l → listed_at i l rows ≡ rows
at_none i l rows is = grind (arith, common_steps)

at_some : (i : ℕ) (l : Limiter) (rows : List ListedRow) (who : Identity) → Some who ≡ served l → listed_at i l rows ≡ record { slot = i; serves = who } ∷ rows
at_some i l rows who is = grind (arith, common_steps)

module _ (ls : List Limiter) (i : ℕ) (inside : i < length ls) where
  listed_more : listed i (drop i ls) ≡ listed_at i (get_or ls i Free) (listed (i + 1) (drop (i + 1) ls))
  unfolding listed
  listed_more = ap (listed i) (drop_more ls i Free inside)

  -- a free slot adds no row
  pub row_none : (before all : List ListedRow) → None ≡ served (get_or ls i Free) → before ++ listed i (drop i ls) ≡ all → before ++ listed (i + 1) (drop (i + 1) ls) ≡ all
  row_none before all is so_far = ap (λ rows. before ++ rows) (sym (listed_more ∙ at_none i (get_or ls i Free) _ is)) ∙ so_far

  -- a limiter in service adds its own
  pub row_more :
      (before all : List ListedRow) (who : Identity) → Some who ≡ served (get_or ls i Free) → before ++ listed i (drop i ls) ≡ all
      → (before ++ (record { slot = i; serves = who } ∷ [])) ++ listed (i + 1) (drop (i + 1) ls) ≡ all
  row_more before all who is so_far = append_assoc before _ _ ∙ ap (λ rows. before ++ rows) (sym (listed_more ∙ at_some i (get_or ls i Free) _ who is)) ∙ so_far

pub row_all : (ls : List Limiter) (i : ℕ) (before all : List ListedRow) → length ls ≤ i → before ++ listed i (drop i ls) ≡ all → before ≡ all
unfolding listed
row_all ls i before all past so_far = grind (arith, common_steps)
