use Rattle.std.proofs.Common.{◌≡◌, length, map, take}
use Rattle.trace.specs.Texts.{row_fields}
use Rattle.trace.proofs.telling.ListingTell.tell.Given as goal

-- the rows so far
abbrev pub invariant-loop-i : goal.invariant-loop-i
invariant-loop-i l = record { long : length l.rows ≡ 64; made : take l.i l.rows ≡ map row_fields (take l.i l.listed) }
