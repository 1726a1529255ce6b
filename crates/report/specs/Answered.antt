-- What the program prints.
use Rattle.std.specs.Prelude.{ℕ, cond, List, ◌++◌, Ok, Err, codes, Result, ◌==◌}
use Rattle.rates.specs.Rule.{Rule}
use Rattle.rates.specs.Chosen.{meant_by}
use Rattle.record.specs.declared.Record.{Record}
use Rattle.settings.specs.declared.figures.Figures.{Figures}
use Rattle.question.specs.Asked.{Asked, asked}
use Rattle.silence.specs.Expiries.{struck, recovery, last}
use Rattle.question.specs.Refusals.{refusal_words}
use Rattle.report.specs.Text.{record_text, way_said, ignored_text}
use Rattle.question.specs.declared.refusal.Refusal.{Refusal}

-- The way back after a notice.
unfoldable pub recovery_text : Rule → Figures → ℕ → List ℕ
recovery_text rule f value = way_said f.line_rate (struck rule f value) (recovery rule f value) (last (struck rule f value) (recovery rule f value))

-- What a notice does: a value of 0 is ignored.
unfoldable pub effect_text : Rule → Figures → ℕ → List ℕ
effect_text rule f value = cond (value == 0) ignored_text (recovery_text rule f value)

-- What the record says, and then what it does.
abbrev pub report_text : Rule → Figures → Record → List ℕ
report_text rule f r = record_text r ++ effect_text rule f r.value

-- A refusal in words, on a line of its own.
abbrev pub refusal_text : Refusal → List ℕ
refusal_text e = refusal_words e ++ codes "\n"

abbrev pub answered_with : Result Asked Refusal → List ℕ
answered_with (Ok q) = report_text (meant_by q.opening.rule q.opening.figures) q.opening.figures q.said
answered_with (Err e) = refusal_text e

-- The text for any input.
abbrev pub answered : List ℕ → List ℕ
answered input = answered_with (asked input)
