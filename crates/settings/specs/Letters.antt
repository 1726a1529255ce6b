-- What a letter names.
use Rattle.std.specs.Prelude.{ℕ, Option, Result, ok_or}
use Rattle.settings.specs.declared.letter.UnknownLetter.{UnknownLetter}

-- What the letter names, where it names something; else the letter is told.
abbrev pub named_or_told : {K : Type 0} → Option K → ℕ → Result K UnknownLetter
named_or_told kind letter = ok_or kind (record { 0 = letter })
