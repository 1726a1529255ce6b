-- The whole question.
use Rattle.std.specs.Prelude.{ℕ, List, [], Ok, Err, Result, slice_index_or}
use Rattle.fields.specs.Parts.{parts}
use Rattle.record.specs.declared.Record.{Record}
use Rattle.question.specs.Questions.{and_then, Opened, opening_of, record_said}
use Rattle.question.specs.declared.reading.Opening.{Opening}
use Rattle.question.specs.declared.reading.Question.{Question}
use Rattle.question.specs.declared.refusal.Refusal.{Refusal}

-- The first line: fields with one space (32) between them.
unfoldable pub opening_said : List ℕ → Result Opened Refusal
opening_said line = opening_of (parts 32 line)

-- An opening by the numbers that it holds.
abbrev pub opened : Opening → Opened
opened o = record { rule = o.rule; figures = o.settings.figures }

abbrev pub told_opening : Result Opening Refusal → Result Opened Refusal
told_opening (Ok o) = Ok (opened o)
told_opening (Err e) = Err e

-- A question by the numbers that it holds.
pub record Asked : Type 0 where
  pub opening : Opened
  pub said : Record

abbrev pub told_question : Result Question Refusal → Result Asked Refusal
told_question (Ok q) = Ok (record { opening = opened q.opening; said = q.said })
told_question (Err e) = Err e

-- The opening, and then the record.
abbrev pub asked_by : Result Opened Refusal → Result Record Refusal → Result Asked Refusal
asked_by opening rest = and_then opening (λ o. and_then rest (λ r. Ok (record { opening = o; said = r })))

-- The first line is the opening, the second the record. Lines end with a newline (10), and one that is not there is empty.
abbrev pub asked : List ℕ → Result Asked Refusal
asked input = asked_by (opening_said (slice_index_or (parts 10 input) 0 [])) (record_said (slice_index_or (parts 10 input) 1 []))
