use Rattle.std.proofs.Common.{◌≡◌, ◌++◌, ◌+◌, List, ℕ, length, take}
use Rattle.std.specs.List.{flat_map}
use Rattle.text.specs.Steps.{pasted}
use Rattle.text.proofs.lines.EachBehindPrintable.put.Given as goal

abbrev pub invariant-loop-item : goal.invariant-loop-item
invariant-loop-item g l =
    let done : List ℕ = flat_map (λ item. g.B.Printable.text l.self.0 ++ g.T.Printable.text item) (take l.item-index l.self.1.now) in
    record { place : l.end ≡ l.at + length done; put : l.out ≡ pasted l.initial.out l.at done }
