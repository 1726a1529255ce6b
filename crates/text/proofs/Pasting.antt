use Rattle.std.proofs.Common.{◌≡◌, ℕ, ◌+◌, ◌≤◌, List, ◌++◌, length, take, drop, ap, add_assoc, arith}
use Rattle.std.proofs.lemmas.Grind.{common_steps}
use Rattle.std.proofs.lemmas.List.{append_assoc, length-append, drop_at, drop-drop}
use Rattle.text.specs.Steps.{pasted}

-- What stands before the end of a text that was put, and what behind it.
front : (out : List ℕ) (at : ℕ) (a : List ℕ) → at + length a ≤ length out → take (at + length a) (pasted out at a) ≡ take at out ++ a
front out at a h = grind (arith, common_steps)

behind : (out : List ℕ) (at : ℕ) (a : List ℕ) → at + length a ≤ length out → drop (at + length a) (pasted out at a) ≡ drop (at + length a) out
behind out at a h = grind (arith, common_steps, drop_at (take at out ++ a) (drop (at + length a) out) (at + length a))

-- A text and then another behind it are one text.
pasted_twice :
    (out : List ℕ) (at : ℕ) (a b : List ℕ) → at + length a ≤ length out
    → pasted (pasted out at a) (at + length a) b ≡ pasted out at (a ++ b)
pasted_twice out at a b h =
    rw (
      front out at a h,
      ← drop-drop (length b) (at + length a) (pasted out at a),
      behind out at a h,
      drop-drop,
      length-append,
      add_assoc,
    ) (simp append_assoc)

-- The same of two steps, where the text of both is known.
pub then_pasted :
    (out out' out'' : List ℕ) (at end : ℕ) (a b text : List ℕ) → at + length text ≤ length out → text ≡ a ++ b
    → end ≡ at + length a → out' ≡ pasted out at a → out'' ≡ pasted out' end b → out'' ≡ pasted out at text
then_pasted out out' out'' at end a b text h e p q r =
    let long : at + length a ≤ length out = omega (arith, ap length e, length-append a b) in
    rw (r, q, p, e) (pasted_twice out at a b long)
