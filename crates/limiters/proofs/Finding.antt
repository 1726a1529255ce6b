-- A search that counts from a place on finds what one from the start finds, that far on.
use Rattle.std.proofs.Common.{◌≡◌, ℕ, ◌+◌, cond, ltb, List, [], ◌∷◌, length, Some, None, Option, refl, ap, ◌∙◌, arith}
use Rattle.std.proofs.lemmas.Iterator.Adapters.{position_from-zero}
use Rattle.std.proofs.lemmas.Grind.{common_steps}
use Rattle.std.specs.List.{position_from, position_or_len}
use Rattle.std.specs.Option.{option_map}
use Rattle.limiters.specs.declared.limiter.Identity.{Identity}
use Rattle.limiters.specs.declared.limiter.Limiter.{Limiter}
use Rattle.limiters.specs.Table.{fits, first_in}

module _ (s : Option Identity) (from : ℕ) where
  first_from : (i j : ℕ) (xs : List Limiter) → from + i ≡ j → option_map (λ n. from + n) (position_from (fits s) i xs) ≡ first_in s j xs
  unfolding first_in
  first_from i j [] at = refl
  first_from i j (x ∷ xs) at = grind (arith, common_steps, first_from (i + 1) (j + 1) xs (omega arith))

  -- `position`, counted from a place on
  pub first_found : (xs : List Limiter) (r : Option ℕ) → r ≡ cond (ltb (position_or_len (fits s) xs) (length xs)) (Some (position_or_len (fits s) xs)) None → option_map (λ n. from + n) r ≡ first_in s from xs
  first_found xs r is = ap (option_map (λ n. from + n)) (is ∙ position_from-zero (fits s) xs) ∙ first_from 0 from xs (omega arith)
