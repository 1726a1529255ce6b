use Rattle.std.proofs.Common.{◌≡◌, ◌≢◌, ◌&&◌, ℕ, ◌-◌, ◌%◌, ◌≤◌, false, List, [], ◌∷◌, ◌++◌, length, get_or, take, drop, is_some, Some, None, Option, sym, refl, ◌∙◌, arith}
use Rattle.std.proofs.lemmas.List.{append_assoc, length-drop, take_rest}
use Rattle.std.proofs.lemmas.Bool.{true≢false}
use Rattle.std.proofs.Math.Bool.{and_assoc}
use Rattle.std.specs.List.{list_all}
use Rattle.std.specs.Option.{option_map}
use Rattle.fields.specs.Hexadecimals.{hex_digit_of, byte_of, hex_of}
use Rattle.fields.specs.Pairs.{paired}

-- A byte that was read goes to the end of those read before it.
moved :
    (bs : List ℕ) (b : ℕ) (o : Option (List ℕ))
    → option_map (λ cs. bs ++ cs) (paired ◌∷◌ (Some b) o) ≡ option_map (λ cs. (bs ++ (b ∷ [])) ++ cs) o
moved bs b None = refl
moved bs b (Some cs) = simp append_assoc

-- One turn of the reading, from two digits to what stands behind them: what was read and what is left still
-- give the same answer.
pub pair_read :
    (bs bs' : List ℕ) (b : ℕ) (cs : List ℕ) (o : Option (List ℕ))
    → option_map (λ ds. bs ++ ds) (hex_of cs) ≡ o → bs' ≡ bs ++ (b ∷ []) → 2 ≤ length cs
    → byte_of (get_or cs 0 0) (get_or cs 1 0) ≡ Some b
    → option_map (λ ds. bs' ++ ds) (hex_of (take (length cs - 2) (drop 2 cs))) ≡ o
pair_read bs bs' b [] o a e h p = absurd (omega arith)
pair_read bs bs' b (x ∷ []) o a e h p = absurd (omega arith)
pair_read bs bs' b (x ∷ (y ∷ cs)) o a e h p =
    simp (take_rest, e) (sym (moved bs b (hex_of cs)) ∙ (rw p at a))

-- What is left after a turn is no longer than what was left before.
pub shorter : (cs : List ℕ) (n : ℕ) → length cs ≤ n → length (take (length cs - 2) (drop 2 cs)) ≤ n
shorter cs n h = simp (take_rest, length-drop) (omega arith)

-- Nothing is made where the second value is missing.
paired_none : {X Y Z : Type 0} (f : X → Y → Z) (o : Option X) → paired f o None ≡ None
paired_none f None = refl
paired_none f (Some x) = refl

-- A value that is not there.
pub none_from : {X : Type 0} (o : Option X) → is_some o ≡ false → o ≡ None
none_from None h = refl
none_from (Some x) h = absurd (true≢false h)

-- Two values make one where both are there.
is_some-paired : {X Y Z : Type 0} (f : X → Y → Z) (o : Option X) (q : Option Y) → is_some (paired f o q) ≡ (is_some o && is_some q)
is_some-paired f None q = refl
is_some-paired f (Some x) None = refl
is_some-paired f (Some x) (Some y) = refl

-- Characters that are even in number write bytes where each is a digit.
pub even_hex : (cs : List ℕ) → length cs % 2 ≡ 0 → is_some (hex_of cs) ≡ list_all (λ c. is_some (hex_digit_of c)) cs
even_hex [] h = refl
even_hex (x ∷ []) h = absurd (omega arith)
even_hex (x ∷ (y ∷ cs)) h =
    let even : length cs % 2 ≡ 0 = omega arith in
    rw (is_some-paired, is_some-paired, even_hex cs even) (and_assoc (is_some (hex_digit_of x)) (is_some (hex_digit_of y)) (list_all (λ c. is_some (hex_digit_of c)) cs))

-- A character left over writes none.
pub odd_hex : (cs : List ℕ) → length cs % 2 ≢ 0 → hex_of cs ≡ None
odd_hex [] h = absurd (omega arith)
odd_hex (x ∷ []) h = refl
odd_hex (x ∷ (y ∷ cs)) h =
    let odd : length cs % 2 ≢ 0 = omega arith in
    rw (odd_hex cs odd, paired_none)
