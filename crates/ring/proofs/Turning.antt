-- A memory seen from the head: what one write and one step of the head do to it.
use Rattle.std.proofs.Common.{◌≡◌, ℕ, zero, suc, ◌+◌, ◌-◌, ◌<◌, ◌≤◌, List, [], ◌∷◌, ◌++◌, length, get_or, take, drop, set, sym, ap, ◌∙◌, ⊎_elim, arith}
use lib.Seq.{take-set-lt}
use Rattle.std.proofs.lemmas.List.{append-nil, append_assoc, length-append, length-take, length-drop, take-append-le, take-take, take-set-le, take_more, take_more_set, drop_all, drop_more, drop-set-lt, drop-set-add, set-append_left, set-append_right}
use Rattle.std.proofs.lemmas.Bool.Decides.{nat_tests}
use Rattle.std.proofs.lemmas.Bool.{cases_lt, cond-true, cond-false, lt-ltb, le-ltb}
use Rattle.ring.specs.Standing.{Standing, tail_place, pushed, popped}
use Rattle.ring.specs.Held.{turned, waiting}

module _ {T : Type 0} where
  turned_length : (h : ℕ) (m : List T) → length (turned h m) ≡ length m
  unfolding turned
  turned_length h m = omega (arith, length-append (drop h m) (take h m), length-drop h m, length-take h m)

  -- As many items wait as are counted.
  pub waiting_length : (s : Standing) (m : List T) → s.count ≤ s.size → length m ≡ s.size → length (waiting s m) ≡ s.count
  waiting_length s m few long = omega (arith, length-take s.count (turned s.head m), turned_length s.head m)

  -- A write k places after the head: before the end of the memory, and going on at its beginning.
  set_near : (h k : ℕ) (m : List T) (x : T) → h + k < length m → turned h (set m (h + k) x) ≡ set (turned h m) k x
  unfolding turned
  set_near h k m x l =
      let behind : h ≤ h + k = omega arith in
      let inside : k < length (drop h m) = omega (arith, length-drop h m) in
      rw (drop-set-add h m k x, take-set-le h m (h + k) x behind) (sym (set-append_left (drop h m) (take h m) k x inside))

  set_round :
      (h k : ℕ) (m : List T) (x : T) → h < length m → length m ≤ h + k → h + k - length m < h
      → turned h (set m (h + k - length m) x) ≡ set (turned h m) k x
  unfolding turned
  set_round h k m x l past low =
      let long : length (drop h m) ≡ length m - h = length-drop h m in
      let place : k - (length m - h) ≡ h + k - length m = omega arith in
      rw (drop-set-lt h m (h + k - length m) x low, take-set-lt h m (h + k - length m) x low)
      (sym (set-append_right (drop h m) (take h m) (length m - h) k x long (omega arith) ∙ ap (λ j. drop h m ++ set (take h m) j x) place))

  -- The tail's place is within the memory.
  pub tail_within : (s : Standing) (m : List T) → s.head ≤ s.size - 1 → s.count < s.size → length m ≡ s.size → tail_place s < length m
  tail_within s m h k long = grind (arith, nat_tests)

  set_tail :
      (s : Standing) (m : List T) (x : T) → s.head ≤ s.size - 1 → s.count < s.size → length m ≡ s.size
      → turned s.head (set m (tail_place s) x) ≡ set (turned s.head m) s.count x
  set_tail s m x h k long =
      ⊎_elim
      (λ near.
      rw (cond-true _ (s.head + s.count) (s.head + s.count - s.size) (lt-ltb (s.head + s.count) s.size near)) (set_near s.head s.count m x (omega arith)))
      (λ round.
      rw (cond-false _ (s.head + s.count) (s.head + s.count - s.size) (le-ltb (s.head + s.count) s.size round), sym long)
      (set_round s.head s.count m x (omega arith) (omega arith) (omega arith)))
      (cases_lt (s.head + s.count) s.size)

  -- An item written at the tail's place waits behind the others.
  pub pushed_waiting :
      (s : Standing) (m : List T) (x : T) → s.head ≤ s.size - 1 → s.count < s.size → length m ≡ s.size
      → waiting (pushed s) (set m (tail_place s) x) ≡ waiting s m ++ (x ∷ [])
  unfolding turned
  pushed_waiting s m x h k long =
      let inside : s.count < length (turned s.head m) = omega (arith, turned_length s.head m) in
      ap (take (s.count + 1)) (set_tail s m x h k long) ∙ take_more_set (turned s.head m) s.count x inside

  -- The memory without the item at the head, as the next head sees it.
  step_near :
      (h k : ℕ) (m : List T) (x : T) → h + 1 < length m → k < length m → x ≡ get_or m h x
      → take k (drop (h + 1) m ++ take h m) ≡ take k (turned (h + 1) m)
  unfolding turned
  step_near h k m x l few here =
      let inside : h < length m = omega arith in
      let long : k ≤ length (drop (h + 1) m ++ take h m) = omega (arith, length-append (drop (h + 1) m) (take h m), length-drop (h + 1) m, length-take h m) in
      rw (take_more m h x inside, sym (append_assoc (drop (h + 1) m) (take h m) (get_or m h x ∷ [])))
      (sym (take-append-le k (drop (h + 1) m ++ take h m) (get_or m h x ∷ []) long))

  step_round : (h k : ℕ) (m : List T) → h + 1 ≡ length m → k < length m → take k (drop (h + 1) m ++ take h m) ≡ take k (turned 0 m)
  unfolding turned
  step_round h k m last few =
      let few-left : k ≤ h = omega arith in
      let past : length m ≤ h + 1 = omega arith in
      rw (drop_all (h + 1) m past, append-nil m) (take-take k h m few-left)

  step :
      (s : Standing) (m : List T) (x : T) (k : ℕ) → s.head ≤ s.size - 1 → k < s.size → length m ≡ s.size → x ≡ get_or m s.head x
      → take k (drop (s.head + 1) m ++ take s.head m) ≡ take k (turned (popped s).head m)
  step s m x k h few long here =
      ⊎_elim
      (λ near. rw (cond-true _ (s.head + 1) 0 (lt-ltb (s.head + 1) s.size near)) (step_near s.head k m x (omega arith) (omega arith) here))
      (λ last. rw (cond-false _ (s.head + 1) 0 (le-ltb (s.head + 1) s.size last)) (step_round s.head k m (omega arith) (omega arith)))
      (cases_lt (s.head + 1) s.size)

  take_first : (k : ℕ) (x : T) (xs : List T) → 0 < k → take k (x ∷ xs) ≡ x ∷ take (k - 1) xs
  take_first zero x xs some = absurd (omega arith)
  take_first (suc k) x xs some = let less : k ≡ suc k - 1 = omega arith in ap (λ n. x ∷ take n xs) less

  -- The first of the waiting items lies at the head, and the others wait in order.
  pub popped_waiting :
      (s : Standing) (m : List T) (x : T) → s.head ≤ s.size - 1 → s.count ≤ s.size → 0 < s.count → length m ≡ s.size → x ≡ get_or m s.head x
      → waiting s m ≡ x ∷ waiting (popped s) m
  unfolding turned
  popped_waiting s m x h few some long here =
      let rest : List T = drop (s.head + 1) m ++ take s.head m in
      let split : drop s.head m ≡ x ∷ drop (s.head + 1) m = drop_more m s.head x (omega arith) ∙ ap (λ y. y ∷ drop (s.head + 1) m) (sym here) in
      ap (λ l. take s.count (l ++ take s.head m)) split
      ∙ take_first s.count x rest some
      ∙ ap (λ l. x ∷ l) (step s m x (s.count - 1) h (omega arith) long here)
