-- The layout of a feedback record: where each field begins, how wide it is, and the four numbers that the format fixes.
-- Numbers are written with the highest byte first. Assumes nothing.
use Rattle.std.specs.Prelude.{ℕ, zero, suc, ◌+◌, ◌*◌, ◌/◌, ◌%◌, ◌^◌, List, [], ◌∷◌, map, length, slice_index}
use Rattle.std.specs.List.{range_with_len}

-- A field is `width` bytes from the byte `begins` on.
pub record Field : Type 0 where
  pub begins : ℕ
  pub width : ℕ

-- The field of n bytes that begins where another ends.
abbrev pub after : Field → ℕ → Field
after f n = record { begins = f.begins + f.width; width = n }

-- Bytes 0 and 1: how many bytes come after these two.
abbrev pub count_field : Field
count_field = record { begins = 0; width = 2 }

-- Byte 2: the version of the format.
abbrev pub version_field : Field
version_field = after count_field 1

-- Bytes 3 to 8: the station address of the switch.
abbrev pub station_field : Field
station_field = after version_field 6

-- Bytes 9 to 12: the flow.
abbrev pub flow_field : Field
flow_field = after station_field 4

-- Byte 13: the value.
abbrev pub value_field : Field
value_field = after flow_field 1

-- A record has 14 bytes.
abbrev pub size : ℕ
size = 14

-- Its count is of the 12 bytes after the count.
abbrev pub counted : ℕ
counted = 12

-- Its version is 1.
abbrev pub version : ℕ
version = 1

-- Its value is at most 63.
abbrev pub greatest : ℕ
greatest = 63

-- The n bytes of a list from a place on; past the end of the list a byte counts as 0.
abbrev pub bytes_from : ℕ → ℕ → List ℕ → List ℕ
bytes_from at n bytes = map (λ k. slice_index bytes k) (range_with_len at n)

-- The bytes of a field.
abbrev pub field : Field → List ℕ → List ℕ
field f bytes = bytes_from f.begins f.width bytes

-- The first byte of a field, which is all of one that is a byte wide.
abbrev pub byte : Field → List ℕ → ℕ
byte f bytes = slice_index bytes f.begins

-- The number that bytes write.
abbrev pub number : List ℕ → ℕ
number [] = 0
number (b ∷ bs) = b * 256 ^ length bs + number bs

-- The n bytes that write a number.
abbrev pub digits : ℕ → ℕ → List ℕ
digits zero x = []
digits (suc n) x = x / 256 ^ n % 256 ∷ digits n x
