-- What bytes say as a feedback record, or why they are none. Assumes nothing.
use Rattle.std.specs.Prelude.{ℕ, ◌-◌, Bool, cond, not, ◌||◌, List, length, Ok, Err, Result, ◌==◌, nat_lt}
use Rattle.record.specs.Layout.{count_field, version_field, station_field, flow_field, value_field, counted, version, greatest, field, byte, number}
use Rattle.record.specs.declared.Record.{Record}
use Rattle.record.specs.declared.faults.ReadFault.{ReadFault}
use Rattle.record.specs.declared.faults.ReadFault.TheVariants.{Length, Version, Count, Value}

-- Too short for a count, or the count is not the number of bytes after it.
abbrev pub wrong_length : List ℕ → Bool
wrong_length bytes =
    nat_lt (length bytes) count_field.width
    || not (number (field count_field bytes) == length bytes - count_field.width)

-- Too short for a version, or the version is not 1.
abbrev pub wrong_version : List ℕ → Bool
wrong_version bytes =
    nat_lt (length bytes) station_field.begins
    || not (byte version_field bytes == version)

-- The count is not 12.
abbrev pub wrong_count : List ℕ → Bool
wrong_count bytes = not (number (field count_field bytes) == counted)

-- The value is above 63.
abbrev pub wrong_value : List ℕ → Bool
wrong_value bytes = nat_lt greatest (byte value_field bytes)

-- What stands in the fields, whatever the rest says.
abbrev pub fields : List ℕ → Record
fields bytes = record { station = field station_field bytes; flow = number (field flow_field bytes); value = byte value_field bytes }

-- The first refusal that fits, in the order length, version, count, value; else the fields.
abbrev pub decoded : List ℕ → Result Record ReadFault
decoded bytes =
    cond (wrong_length bytes) (Err Length)
    (cond (wrong_version bytes) (Err Version)
    (cond (wrong_count bytes) (Err Count)
    (cond (wrong_value bytes) (Err Value)
    (Ok (fields bytes)))))
