use Rattle.std.specs.Prelude.{ℕ, ◌+◌, ◌-◌, ◌*◌, ◌^◌, cond, ◌&&◌, List, [], ◌∷◌, length, Some, None, Option, nat_le}
use Rattle.std.specs.Option.{option_map}
use Rattle.fields.specs.Pairs.{paired}

-- The value of a decimal digit: '0' is 48, and '9' is 57.
abbrev pub digit_of : ℕ → Option ℕ
digit_of c = cond (nat_le 48 c && nat_le c 57) (Some (c - 48)) None

-- The values of all digits, where each character is one.
abbrev pub digits_of : List ℕ → Option (List ℕ)
digits_of [] = Some []
digits_of (c ∷ cs) = paired ◌∷◌ (digit_of c) (digits_of cs)

-- The number that digits write: each counts ten times as much as the one after it.
abbrev pub number_of : List ℕ → ℕ
number_of [] = 0
number_of (d ∷ ds) = d * 10 ^ length ds + number_of ds

-- A number is kept where it is at most 4,294,967,295.
abbrev pub fitting : Option ℕ → Option ℕ
fitting None = None
fitting (Some n) = cond (nat_le n 4294967295) (Some n) None

-- A decimal number is 1 to 10 digits that write at most 4,294,967,295.
abbrev pub decimal_of : List ℕ → Option ℕ
decimal_of cs =
    cond (nat_le 1 (length cs) && nat_le (length cs) 10) (fitting (option_map number_of (digits_of cs))) None
