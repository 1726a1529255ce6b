-- The number of each refusal, and the byte of the record that it blames. Assumes nothing.
use Rattle.std.specs.Prelude.{ℕ}
use Rattle.record.specs.Layout.{count_field, version_field, value_field}
use Rattle.record.specs.declared.faults.ReadFault.{ReadFault}
use Rattle.record.specs.declared.faults.ReadFault.TheVariants as read
use Rattle.record.specs.declared.faults.WriteFault.{WriteFault}
use Rattle.record.specs.declared.faults.WriteFault.TheVariants as write

-- Reading refuses by the numbers 30 to 33, in the order of its tests.
abbrev pub read_number : ReadFault → ℕ
read_number read.Length = 30
read_number read.Version = 31
read_number read.Count = 32
read_number read.Value = 33

-- A refusal blames the first byte of the field that it is about.
abbrev pub read_byte : ReadFault → ℕ
read_byte read.Length = count_field.begins
read_byte read.Version = version_field.begins
read_byte read.Count = count_field.begins
read_byte read.Value = value_field.begins

-- Writing refuses a value by the same number as reading does, and want of room by 44.
abbrev pub write_number : WriteFault → ℕ
write_number write.Value = read_number read.Value
write_number write.Room = 44
