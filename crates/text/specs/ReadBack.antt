-- Reading a printed number, as a field of digits is read, gives the number. Assumes nothing.
use Rattle.std.specs.Prelude.{◌≡◌, ℕ, ◌≤◌, Some, decimal}
use Rattle.fields.specs.Decimals.{decimal_of}

-- Every number that a field can say, which is at most 4,294,967,295.
abbrev pub ReadsBack : Type 0
ReadsBack = (n : ℕ) → n ≤ 4294967295 → decimal_of (decimal n) ≡ Some n
