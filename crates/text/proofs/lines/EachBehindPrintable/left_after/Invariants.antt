use Rattle.std.proofs.Common.{◌≡◌, ◌++◌, Some, take}
use Rattle.std.specs.List.{flat_map}
use Rattle.text.specs.Steps.{left_after}
use Rattle.text.proofs.lines.EachBehindPrintable.left_after.Given as goal

abbrev pub invariant-loop-item : goal.invariant-loop-item
invariant-loop-item g l =
    left_after (flat_map (λ item. g.B.Printable.text l.self.0 ++ g.T.Printable.text item) (take l.item-index l.self.1.now)) l.initial.left ≡ Some l.left
