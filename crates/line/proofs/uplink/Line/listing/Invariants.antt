use Rattle.std.proofs.Common.{◌≡◌, ◌≤◌, ◌++◌, take, drop}
use Rattle.line.specs.Reading.{listed}
use Rattle.line.proofs.uplink.Line.listing.Given as goal

-- the rows so far, and those of the slots to come, are all
abbrev pub invariant-loop-slot : goal.invariant-loop-slot
invariant-loop-slot g l =
    (l.listing.count ≤ l.slot)
    × (take l.listing.count l.listing.rows ++ listed l.slot (drop l.slot l.limiter-items) ≡ listed 0 l.limiter-items)
