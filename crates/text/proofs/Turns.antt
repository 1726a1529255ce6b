-- One turn of a loop over items whose texts stand one behind another.
use Rattle.std.proofs.Common.{◌≡◌, ℕ, ◌+◌, ◌<◌, ◌≤◌, List, ◌++◌, length, get_or, take, Some, None, ap, arith}
use Rattle.std.proofs.lemmas.Bool.Decides.{nat_tests}
use Rattle.std.proofs.lemmas.Grind.{common_steps}
use Rattle.std.proofs.lemmas.List.{length-append, take_more}
use Rattle.std.proofs.lemmas.List.Folds.{length-flat_map-take}
use Rattle.std.specs.List.{flat_map}
use Rattle.text.proofs.Pasting.{then_pasted}
use Rattle.text.specs.Steps.{left_after, pasted}

-- The texts of the items so far, and the next one's.
one_more :
    {X : Type 0} (f : X → List ℕ) (xs : List X) (i : ℕ) (x : X) → i < length xs → x ≡ get_or xs i x
    → flat_map f (take (i + 1) xs) ≡ flat_map f (take i xs) ++ f x
one_more f xs i x h is = grind (arith, common_steps, take_more xs i x h)

-- They are no longer than all the texts.
pub one_within :
    {X : Type 0} (f : X → List ℕ) (xs : List X) (i : ℕ) (x : X) → i < length xs → x ≡ get_or xs i x
    → length (flat_map f (take i xs)) + length (f x) ≤ length (flat_map f xs)
one_within f xs i x h is = omega (arith, length-flat_map-take f xs i x h, ap (λ y. length (f y)) is)

-- Where the next one does not fit, all do not.
pub one_too_many :
    {X : Type 0} (f : X → List ℕ) (xs : List X) (i : ℕ) (x : X) (room left : ℕ) → i < length xs → x ≡ get_or xs i x
    → left_after (flat_map f (take i xs)) room ≡ Some left → left_after (f x) left ≡ None → left_after (flat_map f xs) room ≡ None
one_too_many f xs i x room left h is p q = let within = one_within f xs i x h is in grind (arith, nat_tests)

-- The place behind the next one, and the buffer then.
pub one_behind :
    {X : Type 0} (f : X → List ℕ) (xs : List X) (i : ℕ) (x : X) (at end end' : ℕ) → i < length xs → x ≡ get_or xs i x
    → end ≡ at + length (flat_map f (take i xs)) → end' ≡ end + length (f x) → end' ≡ at + length (flat_map f (take (i + 1) xs))
one_behind f xs i x at end end' h is p q =
    omega (arith, ap length (one_more f xs i x h is), length-append (flat_map f (take i xs)) (f x))

pub one_pasted :
    {X : Type 0} (f : X → List ℕ) (xs : List X) (i : ℕ) (x : X) (out out' out'' : List ℕ) (at end : ℕ) → i < length xs → x ≡ get_or xs i x
    → at + length (flat_map f xs) ≤ length out → end ≡ at + length (flat_map f (take i xs)) → out' ≡ pasted out at (flat_map f (take i xs))
    → out'' ≡ pasted out' end (f x) → out'' ≡ pasted out at (flat_map f (take (i + 1) xs))
one_pasted f xs i x out out' out'' at end h is room p q r =
    let more : flat_map f (take (i + 1) xs) ≡ flat_map f (take i xs) ++ f x = one_more f xs i x h is in
    let within : at + length (flat_map f (take (i + 1) xs)) ≤ length out =
    omega (arith, one_within f xs i x h is, ap length more, length-append (flat_map f (take i xs)) (f x)) in
    then_pasted out out' out'' at end (flat_map f (take i xs)) (f x) (flat_map f (take (i + 1) xs)) within more p q r
