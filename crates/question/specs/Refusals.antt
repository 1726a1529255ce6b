-- What a refused question is answered with.
use Rattle.std.specs.Prelude.{ℕ, List, ◌++◌, codes, decimal}
use Rattle.record.specs.declared.faults.ReadFault.{ReadFault}
use Rattle.record.specs.declared.faults.ReadFault.TheVariants.{Length, Version, Count, Value}
use Rattle.record.specs.Refusals.{read_number}
use Rattle.settings.specs.declared.fault.SettingsFault.{SettingsFault}
use Rattle.settings.specs.declared.fault.SettingsFault.TheVariants.{LineRate, Gain, StepA, StepB, Period, ByteLimit, SetPoint, Weight}
use Rattle.settings.specs.Fault.{refusal}
use Rattle.question.specs.declared.refusal.Refusal.{Refusal}
use Rattle.question.specs.declared.refusal.Refusal.TheVariants.{Fields, Number, Letter, Settings, Digits, Record}

-- The number: 40 to 43 are of the text, and the others are the settings' and the record's own.
abbrev pub refusal_number : Refusal → ℕ
refusal_number Fields = 41
refusal_number (Number s) = 42
refusal_number Letter = 40
refusal_number (Settings s) = refusal s
refusal_number Digits = 43
refusal_number (Record f) = read_number f

abbrev pub setting_name : SettingsFault → List ℕ
setting_name LineRate = codes "the line rate"
setting_name Gain = codes "the gain"
setting_name StepA = codes "step A"
setting_name StepB = codes "step B"
setting_name Period = codes "the timer period"
setting_name ByteLimit = codes "the byte limit"
setting_name SetPoint = codes "the set point"
setting_name Weight = codes "the weight"

abbrev pub range_complaint : SettingsFault → List ℕ
range_complaint LineRate = codes "is not from 100000 to 10000000"
range_complaint Gain = codes "is not from 1 to 32"
range_complaint StepA = codes "is not from 1 to 100000"
range_complaint StepB = codes "is not from step A to 1000000"
range_complaint Period = codes "is not from 100 to 100000"
range_complaint ByteLimit = codes "is not from 10000 to 1000000"
range_complaint SetPoint = codes "is not from 16 to 512"
range_complaint Weight = codes "is not from 1 to 8"

abbrev pub record_complaint : ReadFault → List ℕ
record_complaint Length = codes "is under 2 bytes, or its count is not the number of bytes that follow (byte 0)"
record_complaint Version = codes "has no version, or one that is not 1 (byte 2)"
record_complaint Count = codes "has a count that is not 12 (byte 0)"
record_complaint Value = codes "has a value above 63 (byte 13)"

-- What is at fault.
abbrev pub subject : Refusal → List ℕ
subject Fields = codes "the first line"
subject (Number s) = setting_name s
subject Letter = codes "the ninth field"
subject (Settings s) = setting_name s
subject Digits = codes "the second line"
subject (Record f) = codes "the record"

-- What is wrong with it.
abbrev pub complaint : Refusal → List ℕ
complaint Fields = codes "has not eight or nine fields with one space between them"
complaint (Number s) = codes "is not 1 to 10 digits that make at most 4294967295"
complaint Letter = codes "is not the letter of a rate rule, q or g"
complaint (Settings s) = range_complaint s
complaint Digits = codes "is not hexadecimal digits, two to a byte"
complaint (Record f) = record_complaint f

-- A refusal in words: its number, what is at fault, and what is wrong with it.
abbrev pub refusal_words : Refusal → List ℕ
refusal_words e = codes "refused " ++ (decimal (refusal_number e) ++ (codes ": " ++ (subject e ++ (codes " " ++ complaint e))))
