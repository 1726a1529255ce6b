use Rattle.std.proofs.Common.{◌≡◌, ℕ, ◌+◌, ◌*◌, ◌^◌, ◌<◌, ◌≤◌, List, [], ◌∷◌, length, get_or, drop, Some, None, Option, refl, ap, mul_assoc, add-mul, add-one, arith}
use native.Mathlib.Nat.{pow-succ'}
use Rattle.std.proofs.lemmas.List.{at_drop_more, at_drop_all}
use Rattle.std.specs.Option.{option_map}
use Rattle.fields.specs.Decimals.{number_of, digit_of, digits_of}
use Rattle.fields.specs.Pairs.{paired}

-- The number that digits write behind a number that was read before them.
abbrev pub continued : ℕ → List ℕ → ℕ
continued n ds = n * 10 ^ length ds + number_of ds

-- A digit moves the number read so far one place up.
continued_more : (n d : ℕ) (ds : List ℕ) → continued n (d ∷ ds) ≡ continued (n * 10 + d) ds
continued_more n d ds =
    let p : ℕ = 10 ^ length ds in
    omega (arith, ap (λ q. n * q) (pow-succ' 10 (length ds)), mul_assoc n 10 p, add-mul (n * 10) d p)

-- The same of all that is left to read, digits or not.
moved : (n d : ℕ) (o : Option (List ℕ)) → option_map (continued n) (paired ◌∷◌ (Some d) o) ≡ option_map (continued (n * 10 + d)) o
moved n d None = refl
moved n d (Some ds) = ap Some (continued_more n d ds)

-- The first digit that is left, and those behind it.
digits_more :
    (cs : List ℕ) (i : ℕ) → i < length cs
    → digits_of (drop i cs) ≡ paired ◌∷◌ (digit_of (get_or cs i 0)) (digits_of (drop (i + 1) cs))
digits_more cs i h = at_drop_more digits_of cs i 0 h

pub digit_read :
    (n d : ℕ) (cs : List ℕ) (i : ℕ) → i < length cs → digit_of (get_or cs i 0) ≡ Some d
    → option_map (continued n) (digits_of (drop i cs)) ≡ option_map (continued (n * 10 + d)) (digits_of (drop (i + 1) cs))
digit_read n d cs i h e = rw (digits_more cs i h, e) (moved n d (digits_of (drop (i + 1) cs)))

pub no_digit :
    (n : ℕ) (cs : List ℕ) (i : ℕ) → i < length cs → digit_of (get_or cs i 0) ≡ None
    → option_map (continued n) (digits_of (drop i cs)) ≡ None
no_digit n cs i h e = rw (digits_more cs i h, e)

pub all_read : (n : ℕ) (cs : List ℕ) (i : ℕ) → length cs ≤ i → option_map (continued n) (digits_of (drop i cs)) ≡ Some n
all_read n cs i h =
    let e : digits_of (drop i cs) ≡ Some [] = at_drop_all digits_of cs i h in rw e (ap Some (omega arith))

-- One more digit needs one more place.
pub place_more : (n d i : ℕ) → n < 10 ^ i → d < 10 → n * 10 + d < 10 ^ (i + 1)
place_more n d i h l = rw add-one (omega (arith, pow-succ' 10 i))
