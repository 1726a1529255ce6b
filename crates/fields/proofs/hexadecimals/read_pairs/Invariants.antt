use Rattle.std.proofs.Common.{◌≡◌, ◌≤◌, ◌++◌, length, vec_items}
use Rattle.std.specs.Option.{option_map}
use Rattle.fields.specs.Hexadecimals.{hex_of}
use Rattle.fields.proofs.hexadecimals.read_pairs.Given as goal

abbrev pub invariant-loop-left : goal.invariant-loop-left
invariant-loop-left l =
    (option_map (λ bs. vec_items l.bytes ++ bs) (hex_of l.left) ≡ hex_of l.digits)
    × (length l.left ≤ length l.digits)

abbrev pub decreases-loop-left : goal.decreases-loop-left
decreases-loop-left l = length l.left
