use Rattle.std.specs.Prelude.{◌≡◌, ℕ, ◌+◌, ◌-◌, ◌*◌, ◌≤◌, true, cond, ◌&&◌, List, [], ◌∷◌, length, is_some, Some, None, Ok, Err, vec_items, Option, Result, nat_le}
use Rattle.std.specs.Global.{Vec}
use Rattle.fields.specs.declared.failure.Failure.{Failure}
use Rattle.fields.specs.declared.failure.Failure.TheVariants.{Refused, Memory}
use Rattle.fields.specs.declared.hexadecimals.NoDigits.{NoDigits}
use Rattle.fields.specs.Pairs.{paired}

-- The value of a hexadecimal digit: '0' to '9' are 48 to 57, 'a' to 'f' are 97 to 102, 'A' to 'F' are 65 to 70.
abbrev pub hex_digit_of : ℕ → Option ℕ
hex_digit_of c =
    cond (nat_le 48 c && nat_le c 57) (Some (c - 48))
    (cond (nat_le 97 c && nat_le c 102) (Some (c - 97 + 10))
    (cond (nat_le 65 c && nat_le c 70) (Some (c - 65 + 10)) None))

-- Two digits make a byte, the higher first.
abbrev pub byte_of : ℕ → ℕ → Option ℕ
byte_of high low = paired (λ h l. h * 16 + l) (hex_digit_of high) (hex_digit_of low)

-- The bytes that digits write, two to a byte; none where a digit is left over or a character is no digit.
abbrev pub hex_of : List ℕ → Option (List ℕ)
hex_of [] = Some []
hex_of (c ∷ []) = None
hex_of (high ∷ (low ∷ cs)) = paired ◌∷◌ (byte_of high low) (hex_of cs)

-- What reading digits may answer: the bytes that they write; a refusal just where they write none; Memory only where
-- they write at least one byte.
abbrev pub Written : List ℕ → Result (Vec ℕ) (Failure NoDigits) → Type 0
Written cs (Ok v) = hex_of cs ≡ Some (vec_items v)
Written cs (Err (Refused f)) = hex_of cs ≡ None
Written cs (Err Memory) = (is_some (hex_of cs) ≡ true) × (2 ≤ length cs)
