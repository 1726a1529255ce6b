-- What a line says.
use Rattle.std.specs.Prelude.{◌≡◌, ℕ, cond, List, [], length, is_some, Some, None, Ok, Err, Option, Result, ◌==◌, slice_index_or}
use Rattle.std.specs.Result.{result_ok}
use Rattle.fields.specs.Decimals.{decimal_of}
use Rattle.fields.specs.Hexadecimals.{hex_of}
use Rattle.fields.specs.Letters.{letter_of}
use Rattle.fields.specs.Parts.{parts}
use Rattle.notifiers.specs.Chosen.{kind_of as notifier_of}
use Rattle.notifiers.specs.declared.chosen.NotifierKind.{NotifierKind}
use Rattle.rates.specs.Chosen.{kind_of as rule_of}
use Rattle.rates.specs.declared.chosen.RuleKind.{RuleKind}
use Rattle.settings.specs.declared.figures.Figures.{Figures}
use Rattle.commands.specs.Columns.{column_of}
use Rattle.commands.specs.Said.{Said, opens, offers, leaves, delivers, receives, waits, rates, columns}
use Rattle.commands.specs.Verbs.{verb_of, fields_of}
use Rattle.commands.specs.declared.command.Opening.{Opening}
use Rattle.commands.specs.declared.misread.Misread.{Misread}
use Rattle.commands.specs.declared.misread.SyntaxFault.{SyntaxFault}
use Rattle.commands.specs.declared.misread.SyntaxFault.TheVariants as fault
use Rattle.commands.specs.declared.reading.Misplaced.{Misplaced}
use Rattle.commands.specs.declared.verb.Verb.{Verb}
use Rattle.commands.specs.declared.verb.Verb.TheVariants as verb

-- What follows from an answer, where it is no fault.
abbrev pub and_then : {X Y E : Type 0} → Result X E → (X → Result Y E) → Result Y E
and_then (Ok x) f = f x
and_then (Err e) f = Err e

-- A fault of the field in a place.
abbrev pub misplaced : SyntaxFault → ℕ → Misplaced
misplaced f place = record { fault = f; place = place }

-- What is there, or else a fault.
abbrev pub or_fault : {X : Type 0} → Option X → Misplaced → Result X Misplaced
or_fault None m = Err m
or_fault (Some x) m = Ok x

-- What a letter names.
abbrev pub named : {X : Type 0} → (ℕ → Option X) → Option ℕ → Option X
named kind None = None
named kind (Some letter) = kind letter

-- What one letter gives, by any reading of letters, or else a fault.
abbrev pub Lettered : {X E : Type 0} → (ℕ → Result X E → Type 0) → Option ℕ → Misplaced → Result X Misplaced → Type 0
Lettered {X} {E} gives None m result = result ≡ Err m
Lettered {X} {E} gives (Some letter) m result = (read : Result X E) × gives letter read × (result ≡ or_fault (result_ok read) m)

-- The command is the one that the first field names.
abbrev pub verb_said : List (List ℕ) → Result Verb Misplaced
verb_said fields = or_fault (named verb_of (letter_of (slice_index_or fields 0 []))) (misplaced fault.Command 0)

-- The number that the field in a place writes.
unfoldable pub number_said : List (List ℕ) → ℕ → Result ℕ Misplaced
number_said fields place = or_fault (decimal_of (slice_index_or fields place [])) (misplaced fault.Number place)

-- The eight numbers behind the letter: the first field that is no number is at fault.
abbrev pub figures_said : List (List ℕ) → Result Figures Misplaced
figures_said fields =
    and_then (number_said fields 1) (λ line. and_then (number_said fields 2) (λ gain.
    and_then (number_said fields 3) (λ a. and_then (number_said fields 4) (λ b.
    and_then (number_said fields 5) (λ period. and_then (number_said fields 6) (λ limit.
    and_then (number_said fields 7) (λ point. and_then (number_said fields 8) (λ weight.
    Ok (record { line_rate = line; gain = gain; step_a = a; step_b = b; period = period; byte_limit = limit; set_point = point; weight = weight })))))))))

-- The rule and the notifier, each by its letter.
abbrev pub rule_said : List (List ℕ) → Result RuleKind Misplaced
rule_said fields = or_fault (named rule_of (letter_of (slice_index_or fields 9 []))) (misplaced fault.Letter 9)

abbrev pub notifier_said : List (List ℕ) → Result NotifierKind Misplaced
notifier_said fields = or_fault (named notifier_of (letter_of (slice_index_or fields 10 []))) (misplaced fault.Letter 10)

-- Numbers, then the rule, then the notifier.
abbrev pub opening_said : List (List ℕ) → Result Opening Misplaced
opening_said fields =
    and_then (figures_said fields) (λ f. and_then (rule_said fields) (λ r. and_then (notifier_said fields) (λ n.
    Ok (record { figures = f; rule = r; notifier = n }))))

abbrev pub open_said : List (List ℕ) → Result Said Misplaced
open_said fields = and_then (opening_said fields) (λ o. Ok (opens o))

-- A flow, and then a length.
abbrev pub offer_said : List (List ℕ) → Result Said Misplaced
offer_said fields = and_then (number_said fields 1) (λ flow. and_then (number_said fields 2) (λ length. Ok (offers flow length)))

-- Hexadecimal digits, two to a byte.
abbrev pub receive_said : List (List ℕ) → Result Said Misplaced
receive_said fields = cond (is_some (hex_of (slice_index_or fields 1 []))) (Ok (receives (slice_index_or fields 1 []))) (Err (misplaced fault.Digits 1))

abbrev pub wait_said : List (List ℕ) → Result Said Misplaced
wait_said fields = and_then (number_said fields 1) (λ n. Ok (waits n))

abbrev pub rates_said : List (List ℕ) → Result Said Misplaced
rates_said fields = and_then (number_said fields 1) (λ flow. Ok (rates flow))

-- What fields in the right number say.
abbrev pub said_as : Verb → List (List ℕ) → Result Said Misplaced
said_as verb.Open fields = open_said fields
said_as verb.Offer fields = offer_said fields
said_as verb.Leave fields = Ok leaves
said_as verb.Deliver fields = Ok delivers
said_as verb.Receive fields = receive_said fields
said_as verb.Wait fields = wait_said fields
said_as verb.Rates fields = rates_said fields
said_as verb.Columns fields = Ok columns

-- A command has so many fields, and no others.
abbrev pub counted : Verb → List (List ℕ) → Result Said Misplaced
counted v fields = cond (length fields == fields_of v) (said_as v fields) (Err (misplaced fault.Fields 0))

-- The letter first, then the number of fields, then each field.
abbrev pub command_said : List (List ℕ) → Result Said Misplaced
command_said fields = and_then (verb_said fields) (λ v. counted v fields)

-- A fault stands at the column where its field begins.
abbrev pub located : List ℕ → Misplaced → Misread
located line m = record { fault = m.fault; column = column_of line m.place }

abbrev pub said_at : List ℕ → Result Said Misplaced → Result Said Misread
said_at line (Ok s) = Ok s
said_at line (Err m) = Err (located line m)

-- A line is fields with one space (32) between them.
unfoldable pub said : List ℕ → Result Said Misread
said line = said_at line (command_said (parts 32 line))
