-- The greatest rung below a limit and the least from it: each is what its name says, and is where the rungs are parted.
use Rattle.std.proofs.Common.{◌≡◌, ℕ, zero, suc, ◌-◌, ◌<◌, ◌≤◌, ltb, leb, cond, Some, None, Option, ◌∙◌, refl, sym, subst, ⊎_elim, arith}
use Rattle.std.proofs.lemmas.Bool.{cond_both, cond-true, cond-false, lt-ltb, le-ltb, le-leb, lt-leb, ltb-true, ltb-false, leb-true, leb-false, cases_eq}
use borrow.Author.Count.{below_none, below_more}
use Rattle.rungs.specs.Rungs.{rung, count, Parted, last_below, first_from, greatest_below, least_from, GreatestBelow, LeastFrom}
use Rattle.rungs.proofs.RungLaws.{rising_to}

below_suc : (P : ℕ → Type 0) (m : ℕ) → ((k : ℕ) → k < m → P k) → P m → (k : ℕ) → k < suc m → P k
below_suc P m all here k l = below_more P m all here k (omega arith)

module _ (limit : ℕ) where
  -- what the two say of the first m rungs
  abbrev Greatest : ℕ → Option ℕ → Type 0
  Greatest m None = (k : ℕ) → k < m → limit ≤ rung k
  Greatest m (Some r) = ((k : ℕ) × (k < m) × (rung k ≡ r)) × (r < limit) × ((k : ℕ) → k < m → rung k < limit → rung k ≤ r)

  abbrev Least : ℕ → Option ℕ → Type 0
  Least m None = (k : ℕ) → k < m → rung k < limit
  Least m (Some r) = ((k : ℕ) × (k < m) × (rung k ≡ r)) × (limit ≤ r) × ((k : ℕ) → k < m → limit ≤ rung k → r ≤ rung k)

  still_greatest : (m : ℕ) → limit ≤ rung m → (o : Option ℕ) → Greatest m o → Greatest (suc m) o
  still_greatest m over None all = below_suc (λ k. limit ≤ rung k) m all over
  still_greatest m over (Some r) ((k, inside, is), low, most) =
      ((k, omega arith, is), low, below_suc (λ k. rung k < limit → rung k ≤ r) m most (λ under. absurd (omega arith)))

  greatest_among : (m : ℕ) → m ≤ count → Greatest m (last_below limit m)
  unfolding last_below
  greatest_among zero h = below_none (λ k. limit ≤ rung k)
  greatest_among (suc m) h =
      cond_both (ltb (rung m) limit) (Some (rung m)) (last_below limit m) (Greatest (suc m))
      (λ e. ((m, omega arith, refl), ltb-true _ _ e, λ k l under. rising_to k m (omega arith) (omega arith)))
      (λ e. still_greatest m (ltb-false _ _ e) (last_below limit m) (greatest_among m (omega arith)))

  least_more : (m : ℕ) → m < count → (o : Option ℕ) → Least m o → Least (suc m) (elim o [ Some r ↦ Some r | None ↦ cond (leb limit (rung m)) (Some (rung m)) None ])
  least_more m h (Some r) ((k, inside, is), high, least) =
      ((k, omega arith, is), high, below_suc (λ j. limit ≤ rung j → r ≤ rung j) m least (λ over. omega (arith, rising_to k m (omega arith) h, is)))
  least_more m h None all =
      cond_both (leb limit (rung m)) (Some (rung m)) None (Least (suc m))
      (λ e. ((m, omega arith, refl), leb-true _ _ e, below_suc (λ j. limit ≤ rung j → rung m ≤ rung j) m (λ j l over. absurd (omega (arith, all j l))) (λ over. omega arith)))
      (λ e. below_suc (λ k. rung k < limit) m all (leb-false _ _ e))

  least_among : (m : ℕ) → m ≤ count → Least m (first_from limit m)
  unfolding first_from
  least_among zero h = below_none (λ k. rung k < limit)
  least_among (suc m) h = least_more m h (first_from limit m) (least_among m (omega arith))

  pub greatest_is : GreatestBelow limit (greatest_below limit)
  greatest_is = greatest_among count (omega arith)

  pub least_is : LeastFrom limit (least_from limit)
  least_is = least_among count (omega arith)

  -- the greatest is the last before the place where the limit parts the rungs, and the least is the first from there
  none_below : (m : ℕ) → ((k : ℕ) → k < m → limit ≤ rung k) → last_below limit m ≡ None
  unfolding last_below
  none_below zero over = refl
  none_below (suc m) over = cond-false _ _ _ (le-ltb _ _ (over m (omega arith))) ∙ none_below m (λ k h. over k (omega arith))

  last_found : (m n : ℕ) → n < m → rung n < limit → ((k : ℕ) → n < k → k < m → limit ≤ rung k) → last_below limit m ≡ Some (rung n)
  unfolding last_below
  last_found zero n h under over = absurd (omega arith)
  last_found (suc m) n h under over =
      ⊎_elim
      (λ same. subst (λ j. last_below limit (suc m) ≡ Some (rung j)) (sym same) (cond-true _ _ _ (lt-ltb _ _ (subst (λ j. rung j < limit) same under))))
      (λ other. cond-false _ _ _ (le-ltb _ _ (over m (omega arith) (omega arith))) ∙ last_found m n (omega arith) under (λ k a b. over k a (omega arith)))
      (cases_eq n m)

  none_from : (m : ℕ) → ((k : ℕ) → k < m → rung k < limit) → first_from limit m ≡ None
  unfolding first_from
  none_from zero under = refl
  none_from (suc m) under = rw (none_from m (λ k h. under k (omega arith))) (cond-false _ _ _ (lt-leb _ _ (under m (omega arith))))

  first_found : (m n : ℕ) → n < m → limit ≤ rung n → ((k : ℕ) → k < n → rung k < limit) → first_from limit m ≡ Some (rung n)
  unfolding first_from
  first_found zero n h over under = absurd (omega arith)
  first_found (suc m) n h over under =
      ⊎_elim
      (λ same.
      subst (λ j. first_from limit (suc m) ≡ Some (rung j)) (sym same)
      (rw (none_from m (λ k l. under k (omega arith))) (cond-true _ _ _ (le-leb _ _ (subst (λ j. limit ≤ rung j) same over)))))
      (λ other. rw (first_found m n (omega arith) over under) refl)
      (cases_eq n m)

  module _ (n : ℕ) (parted : Parted limit n) where
    pub none_is_below : n ≡ 0 → greatest_below limit ≡ None
    none_is_below e = none_below count (λ k h. parted.from k (omega arith) h)

    pub greatest_at : 0 < n → greatest_below limit ≡ Some (rung (n - 1))
    greatest_at h = last_found count (n - 1) (omega (arith, parted.within)) (parted.before (n - 1) (omega arith)) (λ k a b. parted.from k (omega arith) b)

    pub none_is_from : count ≤ n → least_from limit ≡ None
    none_is_from h = none_from count (λ k l. parted.before k (omega arith))

    pub least_at : n < count → least_from limit ≡ Some (rung n)
    least_at h = first_found count n h (parted.from n (omega arith) h) parted.before
