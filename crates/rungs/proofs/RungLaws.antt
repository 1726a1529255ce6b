-- The rungs rise strictly, and none is more than twice the one before.
use Rattle.std.proofs.Common.{◌≡◌, ℕ, zero, suc, ◌+◌, ◌*◌, ◌<◌, ◌≤◌, Bool, true, ◌&&◌, ltb, leb, length, get_or, sym, refl, ap, ◌∙◌, subst, ⊎_elim, add-zero, add-suc, suc-add, arith}
use Rattle.std.proofs.lemmas.Bool.{and_parts, ltb-true, leb-true, cases_eq}
use Rattle.rungs.specs.Rungs.{rung, listed, count, Rising}

pub listed_at : (n a k d : ℕ) → k < n → get_or (listed a n) k d ≡ rung (a + k)
unfolding rung
listed_at zero a k d h = absurd (omega arith)
listed_at (suc n) a zero d h = ap rung (sym (add-zero a))
listed_at (suc n) a (suc k) d h = listed_at n (suc a) k d (omega arith) ∙ ap rung (suc-add a k ∙ sym (add-suc a k))

pub length-listed : (n a : ℕ) → length (listed a n) ≡ n
length-listed zero a = refl
length-listed (suc n) a = ap suc (length-listed n (suc a))

-- each of the first n neighbours: the next rung is above, and at most twice
unfoldable neighbours : ℕ → Bool
neighbours zero = true
neighbours (suc n) = (ltb (rung n) (rung (suc n)) && leb (rung (suc n)) (2 * rung n)) && neighbours n

all_neighbours : neighbours 639 ≡ true
unfolding neighbours rung
all_neighbours = refl

neighbour : (n k : ℕ) → neighbours n ≡ true → k < n → (rung k < rung (suc k)) × (rung (suc k) ≤ 2 * rung k)
unfolding neighbours
neighbour zero k e h = absurd (omega arith)
neighbour (suc n) k e h =
    let p = and_parts (ltb (rung n) (rung (suc n)) && leb (rung (suc n)) (2 * rung n)) (neighbours n) e in
    ⊎_elim
    (λ same.
    let q = and_parts (ltb (rung n) (rung (suc n))) (leb (rung (suc n)) (2 * rung n)) p.0 in
    subst (λ m. (rung m < rung (suc m)) × (rung (suc m) ≤ 2 * rung m)) (sym same) (ltb-true _ _ q.0, leb-true _ _ q.1))
    (λ other. neighbour n k p.1 (omega arith))
    (cases_eq k n)

pub next_above : (k : ℕ) → suc k < count → rung k < rung (suc k)
next_above k h = (neighbour 639 k all_neighbours (omega arith)).0

pub next_twice : (k : ℕ) → suc k < count → rung (suc k) ≤ 2 * rung k
next_twice k h = (neighbour 639 k all_neighbours (omega arith)).1

pub rising : Rising
rising i zero h within = absurd (omega arith)
rising i (suc j) h within =
    ⊎_elim
    (λ same. subst (λ m. rung m < rung (suc j)) (sym same) (next_above j within))
    (λ other. let step : rung i < rung j = rising i j (omega arith) (omega arith) in omega (arith, next_above j within))
    (cases_eq i j)

pub rising_to : (i j : ℕ) → i ≤ j → j < count → rung i ≤ rung j
rising_to i j h within = ⊎_elim (λ same. subst (λ m. rung i ≤ rung m) same (omega arith)) (λ other. let up : rung i < rung j = rising i j (omega arith) within in omega arith) (cases_eq i j)
