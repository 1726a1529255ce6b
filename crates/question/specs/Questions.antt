-- What a question's two lines say.
use Rattle.std.specs.Prelude.{ℕ, cond, ◌||◌, List, [], ◌∷◌, length, Some, None, Ok, Err, Option, Result, ◌==◌, nat_lt, slice_index_or}
use Rattle.fields.specs.Decimals.{decimal_of}
use Rattle.fields.specs.Hexadecimals.{hex_of}
use Rattle.rates.specs.Chosen.{kind_of}
use Rattle.rates.specs.declared.chosen.RuleKind.{RuleKind}
use Rattle.rates.specs.declared.chosen.RuleKind.TheVariants.{Standard}
use Rattle.record.specs.Decoded.{decoded}
use Rattle.record.specs.declared.Record.{Record as Said}
use Rattle.record.specs.declared.faults.ReadFault.{ReadFault}
use Rattle.settings.specs.Judged.{judged}
use Rattle.settings.specs.declared.fault.SettingsFault.{SettingsFault}
use Rattle.settings.specs.declared.fault.SettingsFault.TheVariants.{LineRate, Gain, StepA, StepB, Period, ByteLimit, SetPoint, Weight}
use Rattle.settings.specs.declared.figures.Figures.{Figures}
use Rattle.question.specs.declared.refusal.Refusal.{Refusal}
use Rattle.question.specs.declared.refusal.Refusal.TheVariants.{Fields, Number, Letter, Settings, Digits, Record}

-- What follows from an answer, where it is no refusal.
abbrev pub and_then : {X Y : Type 0} → Result X Refusal → (X → Result Y Refusal) → Result Y Refusal
and_then (Ok x) f = f x
and_then (Err e) f = Err e

-- The number that a field gives for a setting.
abbrev pub number_of : SettingsFault → Option ℕ → Result ℕ Refusal
number_of s None = Err (Number s)
number_of s (Some n) = Ok n

unfoldable pub number_said : List (List ℕ) → ℕ → SettingsFault → Result ℕ Refusal
number_said fields place s = number_of s (decimal_of (slice_index_or fields place []))

-- The numbers of the first eight fields: the first field that is no number is refused.
abbrev pub figures_said : List (List ℕ) → Result Figures Refusal
figures_said fields =
    and_then (number_said fields 0 LineRate) (λ line. and_then (number_said fields 1 Gain) (λ gain.
    and_then (number_said fields 2 StepA) (λ a. and_then (number_said fields 3 StepB) (λ b.
    and_then (number_said fields 4 Period) (λ period. and_then (number_said fields 5 ByteLimit) (λ limit.
    and_then (number_said fields 6 SetPoint) (λ point. and_then (number_said fields 7 Weight) (λ weight.
    Ok (record { line_rate = line; gain = gain; step_a = a; step_b = b; period = period; byte_limit = limit; set_point = point; weight = weight })))))))))

-- The rule that a field of one letter names.
abbrev pub kind_or_not : Option RuleKind → Result RuleKind Refusal
kind_or_not None = Err Letter
kind_or_not (Some k) = Ok k

abbrev pub kind_named : List ℕ → Result RuleKind Refusal
kind_named [] = Err Letter
kind_named (letter ∷ []) = kind_or_not (kind_of letter)
kind_named (a ∷ (b ∷ rest)) = Err Letter

-- The ninth field names the rule; with eight it is the standard one.
abbrev pub kind_said : List (List ℕ) → Result RuleKind Refusal
kind_said fields = cond (length fields == 8) (Ok Standard) (kind_named (slice_index_or fields 8 []))

-- A rule with the numbers of its settings.
pub record Opened : Type 0 where
  pub rule : RuleKind
  pub figures : Figures

-- The settings' own fault is the refusal.
abbrev pub opening_judged : RuleKind → Result Figures SettingsFault → Result Opened Refusal
opening_judged k (Ok f) = Ok (record { rule = k; figures = f })
opening_judged k (Err e) = Err (Settings e)

-- Numbers, then the letter, then what they say together.
abbrev pub opening_from : List (List ℕ) → Result Opened Refusal
opening_from fields = and_then (figures_said fields) (λ f. and_then (kind_said fields) (λ k. opening_judged k (judged f)))

-- Eight or nine fields.
abbrev pub opening_of : List (List ℕ) → Result Opened Refusal
opening_of fields = cond (nat_lt (length fields) 8 || nat_lt 9 (length fields)) (Err Fields) (opening_from fields)

-- The record's own fault is the refusal.
abbrev pub record_judged : Result Said ReadFault → Result Said Refusal
record_judged (Ok r) = Ok r
record_judged (Err e) = Err (Record e)

abbrev pub record_of : List ℕ → Result Said Refusal
record_of bytes = record_judged (decoded bytes)

abbrev pub record_from : Option (List ℕ) → Result Said Refusal
record_from None = Err Digits
record_from (Some bytes) = record_of bytes

-- The second line: a record in hexadecimal digits.
unfoldable pub record_said : List ℕ → Result Said Refusal
record_said line = record_from (hex_of line)
