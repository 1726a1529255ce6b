use Rattle.std.proofs.Common.{◌≡◌, ℕ, suc, ◌+◌, ◌*◌, ◌/◌, ◌%◌, ◌^◌, ◌<◌, ◌≤◌, List, [], ◌∷◌, ◌++◌, length, Some, None, decimal, Option, refl, ap, ◌∙◌, mul_assoc, add-one, arith}
use native.Mathlib.Nat.{pow-succ'}
use Rattle.std.proofs.lemmas.Fmt.{decimal_by_steps, decimal_nonempty, length-decimal-le}
use Rattle.std.proofs.lemmas.List.{length_push}
use Rattle.std.proofs.lemmas.Bool.{le-leb}
use Rattle.std.specs.Option.{option_map}
use Rattle.fields.specs.Decimals.{digit_of, digits_of, number_of, decimal_of}
use Rattle.fields.specs.Pairs.{paired}

-- A digit behind others makes ten times their number and the digit.
number_push : (ds : List ℕ) (d : ℕ) → number_of (ds ++ (d ∷ [])) ≡ number_of ds * 10 + d
number_push [] d = omega arith
number_push (x ∷ ds) d =
    let p : ℕ = 10 ^ length ds in
    let places : length (ds ++ (d ∷ [])) ≡ suc (length ds) = length_push ds d ∙ add-one (length ds) in
    let weight : x * 10 ^ length (ds ++ (d ∷ [])) ≡ x * (10 * p) = ap (λ k. x * 10 ^ k) places ∙ ap (λ q. x * q) (pow-succ' 10 (length ds)) in
    omega (arith, weight, number_push ds d, mul_assoc x 10 p)

-- The digit of a number below ten.
digit_read : (d : ℕ) → d < 10 → digit_of (48 + d) ≡ Some d
digit_read d h =
    rw (le-leb 48 (48 + d) (omega arith), le-leb (48 + d) 57 (omega arith)) (ap Some (omega arith))

-- A value at the end of those that are paired with one in front.
paired_push :
    (o : Option ℕ) (q : Option (List ℕ)) (d : ℕ)
    → paired ◌∷◌ o (option_map (λ ds. ds ++ (d ∷ [])) q) ≡ option_map (λ ds. ds ++ (d ∷ [])) (paired ◌∷◌ o q)
paired_push None q d = refl
paired_push (Some x) None d = refl
paired_push (Some x) (Some ds) d = refl

digits_push : (cs : List ℕ) (d : ℕ) → d < 10 → digits_of (cs ++ ((48 + d) ∷ [])) ≡ option_map (λ ds. ds ++ (d ∷ [])) (digits_of cs)
digits_push [] d h = rw (digit_read d h)
digits_push (c ∷ cs) d h = rw (digits_push cs d h) (paired_push (digit_of c) (digits_of cs) d)

-- One digit more, and the number that they write then.
number_more :
    (o : Option (List ℕ)) (n d : ℕ) → option_map number_of o ≡ Some (n / 10) → n % 10 ≡ d
    → option_map number_of (option_map (λ ds. ds ++ (d ∷ [])) o) ≡ Some n
number_more None n d e p = cc
number_more (Some ds) n d e p =
    let front : number_of ds ≡ n / 10 = cc in ap Some (omega (arith, number_push ds d))

one : (n : ℕ) → n < 10 → option_map number_of (digits_of ((48 + n) ∷ [])) ≡ Some n
one n h = rw (digit_read n h) (ap Some (omega arith))

more :
    (n : ℕ) (cs : List ℕ) → 10 ≤ n → option_map number_of (digits_of cs) ≡ Some (n / 10)
    → option_map number_of (digits_of (cs ++ ((48 + n % 10) ∷ []))) ≡ Some n
more n cs h e = rw (digits_push cs (n % 10) (omega arith)) (number_more (digits_of cs) n (n % 10) e refl)

pub read_back : (n : ℕ) → n ≤ 4294967295 → decimal_of (decimal n) ≡ Some n
read_back n h =
    let number : option_map number_of (digits_of (decimal n)) ≡ Some n = decimal_by_steps (λ m cs. option_map number_of (digits_of cs) ≡ Some m) one more n (omega arith) in
    rw (
      le-leb 1 (length (decimal n)) (decimal_nonempty n (omega arith)),
      le-leb (length (decimal n)) 10 (length-decimal-le 10 n (omega arith) (omega arith) (omega arith)),
      number,
      le-leb n 4294967295 h,
    )
