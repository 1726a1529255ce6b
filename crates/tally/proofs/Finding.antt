-- A search of the table finds a slot that fits, and the one that serves a flow.
use Rattle.std.proofs.lemmas.Grind.{common_steps}
use Rattle.std.proofs.Common.{◌≡◌, ℕ, zero, suc, ◌+◌, ◌-◌, ◌<◌, ◌≤◌, Bool, true, false, cond, ◌⊎◌, List, [], ◌∷◌, length, get_or, drop, Some, None, Option, sym, refl, ap, ◌∙◌, subst, ⊎_elim, arith}
use Rattle.std.proofs.lemmas.List.{length-take, length-drop, get_or-take, get_or-drop, take_all}
use Rattle.std.proofs.lemmas.Bool.{true≢false, cases_lt}
use Rattle.limiters.specs.Place.{placed}
use Rattle.limiters.specs.Single.{Single}
use Rattle.limiters.specs.Table.{fits, first_in, part, serving, first_free, or_else}
use Rattle.limiters.specs.declared.limiter.Identity.{Identity}
use Rattle.limiters.specs.declared.limiter.Limiter.{Limiter}
use Rattle.limiters.specs.declared.limiter.Limiter.TheVariants.{Free}

-- one step of a search
here_or_on : (b : Bool) (i j : ℕ) (o : Option ℕ) → cond b (Some i) o ≡ Some j → ((b ≡ true) × (i ≡ j)) ⊎ (o ≡ Some j)
here_or_on b i j o e = grind (arith, common_steps)

not_here : (b : Bool) (i : ℕ) (o : Option ℕ) → cond b (Some i) o ≡ None → (b ≡ false) × (o ≡ None)
not_here b i o e = grind (arith, common_steps)

-- so many places on, a limiter fits
record Found (s : Option Identity) (xs : List Limiter) (i j : ℕ) : Type 0 where
  on : ℕ
  is : j ≡ i + on
  inside : on < length xs
  here : fits s (get_or xs on Free) ≡ true

found_on : (s : Option Identity) (x : Limiter) (xs : List Limiter) (i j : ℕ) → Found s xs (i + 1) j → Found s (x ∷ xs) i j
found_on s x xs i j f = record { on = suc f.on; is = omega (arith, f.is); inside = omega (arith, f.inside); here = f.here }

found_in : (s : Option Identity) (xs : List Limiter) (i j : ℕ) → first_in s i xs ≡ Some j → Found s xs i j
unfolding first_in
found_in s [] i j e = cc
found_in s (x ∷ xs) i j e =
    ⊎_elim
    (λ h. record { on = 0; is = omega (arith, h.1); inside = omega arith; here = h.0 })
    (λ h. found_on s x xs i j (found_in s xs (i + 1) j h))
    (here_or_on (fits s x) i j (first_in s (i + 1) xs) e)

none_fits : (s : Option Identity) (xs : List Limiter) (k i : ℕ) → first_in s i xs ≡ None → k < length xs → fits s (get_or xs k Free) ≡ false
unfolding first_in
none_fits s [] k i e h = absurd (omega arith)
none_fits s (x ∷ xs) zero i e h = (not_here (fits s x) i (first_in s (i + 1) xs) e).0
none_fits s (x ∷ xs) (suc k) i e h = none_fits s xs k (i + 1) (not_here (fits s x) i (first_in s (i + 1) xs) e).1 (omega arith)

-- a slot that was found is one of the table, and fits
pub found_part : (s : Option Identity) (from to : ℕ) (ls : List Limiter) (j : ℕ) → first_in s from (part from to ls) ≡ Some j → (j < to) × (j < length ls) × (fits s (get_or ls j Free) ≡ true)
found_part s from to ls j e =
    let f = found_in s (part from to ls) from j e in
    let k = f.on in
    let long = length-take (to - from) (drop from ls) in
    let rest = length-drop from ls in
    let few : k < to - from = omega (arith, f.inside) in
    let same : get_or (part from to ls) k Free ≡ get_or ls j Free = get_or-take (to - from) (drop from ls) k Free few ∙ get_or-drop from ls k Free ∙ ap (λ n. get_or ls n Free) (sym f.is) in
    (omega (arith, f.is), omega (arith, f.is, f.inside), subst (λ l. fits s l ≡ true) same f.here)

pub found_serving : (who : Identity) (i : ℕ) (ls : List Limiter) → serving who ls ≡ Some i → (i < 64) × (fits (Some who) (get_or ls i Free) ≡ true)
found_serving who i ls e = let f = found_part (Some who) 0 64 ls i e in (f.0, f.2)

none_serves : (who : Identity) (ls : List Limiter) → length ls ≡ 64 → serving who ls ≡ None → (k : ℕ) → k < 64 → fits (Some who) (get_or ls k Free) ≡ false
none_serves who ls long e k inside = none_fits (Some who) ls k 0 (ap (first_in (Some who) 0) (sym (take_all 64 ls (omega arith))) ∙ e) (omega arith)

serving_is : (who : Identity) (i : ℕ) (ls : List Limiter) (o : Option ℕ) → serving who ls ≡ o → length ls ≡ 64 → Single ls → i < 64 → fits (Some who) (get_or ls i Free) ≡ true → o ≡ Some i
serving_is who i ls None e long single inside here = absurd (true≢false (sym here ∙ none_serves who ls long e i inside))
serving_is who i ls (Some j) e long single inside here =
    let f = found_serving who j ls e in
    let same : j ≡ i = single who j i (omega (arith, f.0)) (omega arith) f.1 here in
    ap (λ (n : ℕ). Some n) same

-- the slot that serves a flow is the one that is found
pub serving_found : (who : Identity) (i : ℕ) (ls : List Limiter) → length ls ≡ 64 → Single ls → i < 64 → fits (Some who) (get_or ls i Free) ≡ true → serving who ls ≡ Some i
serving_found who i ls = serving_is who i ls (serving who ls) refl

-- of two answers, the one that is given
either_gives : (o p : Option ℕ) (i : ℕ) → or_else o p ≡ Some i → (o ≡ Some i) ⊎ (p ≡ Some i)
either_gives o p i e = grind (arith, common_steps)

pub found_free : (cursor i : ℕ) (ls : List Limiter) → length ls ≡ 64 → first_free cursor ls ≡ Some i → (i < 64) × (fits None (get_or ls i Free) ≡ true)
found_free cursor i ls long e =
    ⊎_elim
    (λ h. let f = found_part None cursor 64 ls i h in (f.0, f.2))
    (λ h. let f = found_part None 0 cursor ls i h in (omega (arith, f.1), f.2))
    (either_gives (first_in None cursor (part cursor 64 ls)) (first_in None 0 (part 0 cursor ls)) i e)

-- a search that finds nothing passed every slot of its part
none_part : (s : Option Identity) (from to : ℕ) (ls : List Limiter) → first_in s from (part from to ls) ≡ None → (k : ℕ) → from ≤ k → k < to → k < length ls → fits s (get_or ls k Free) ≡ false
none_part s from to ls e k low high inside =
    let on = k - from in
    let few : on < to - from = omega arith in
    let back : from + on ≡ k = omega arith in
    let same : get_or (part from to ls) on Free ≡ get_or ls k Free = get_or-take (to - from) (drop from ls) on Free few ∙ get_or-drop from ls on Free ∙ ap (λ n. get_or ls n Free) back in
    subst (λ l. fits s l ≡ false) same (none_fits s (part from to ls) on from e (omega (arith, length-take (to - from) (drop from ls), length-drop from ls)))

neither_gives : (o p : Option ℕ) → or_else o p ≡ None → (o ≡ None) × (p ≡ None)
neither_gives o p e = grind (arith, common_steps)

-- where a notice is not placed, no slot is free
pub none_free : (who : Identity) (cursor : ℕ) (ls : List Limiter) → length ls ≡ 64 → placed who cursor ls ≡ None → (k : ℕ) → k < 64 → fits None (get_or ls k Free) ≡ false
none_free who cursor ls long e k inside =
    let free = (neither_gives (serving who ls) (first_free cursor ls) e).1 in
    let parts = neither_gives (first_in None cursor (part cursor 64 ls)) (first_in None 0 (part 0 cursor ls)) free in
    ⊎_elim
    (λ before. none_part None 0 cursor ls parts.1 k (omega arith) before (omega arith))
    (λ after. none_part None cursor 64 ls parts.0 k after inside (omega arith))
    (cases_lt k cursor)
