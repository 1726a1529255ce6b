use Rattle.std.proofs.Common.{◌≡◌, ◌+◌, length}
use Rattle.fields.specs.Parts.{parts}
use Rattle.commands.specs.Columns.{before}
use Rattle.commands.proofs.columns.column_of.Given as goal

-- the column of the next field
abbrev pub invariant-loop-field : goal.invariant-loop-field
invariant-loop-field l = l.column ≡ 1 + before (parts 32 l.line) (length l.yielded)
