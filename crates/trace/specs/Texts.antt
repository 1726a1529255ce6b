-- The text of what a line of a trace is answered.
use Rattle.std.specs.Prelude.{ℕ, List, [], ◌∷◌, map, Some, None, Ok, Err, Option, Result}
use Rattle.line.specs.declared.listing.FlowRates.{FlowRates}
use Rattle.line.specs.declared.listing.ListedRow.{ListedRow}
use Rattle.tally.specs.declared.call.Offered.{Offered}
use Rattle.tally.specs.declared.call.Offered.TheVariants as offered
use Rattle.tally.specs.declared.call.Outcome.{Outcome}
use Rattle.tally.specs.declared.call.Outcome.TheVariants as outcome
use Rattle.tally.specs.declared.frame.Frame.{Frame}
use Rattle.text.specs.Lines.{line_text, table_text}
use Rattle.text.specs.declared.printed.Printed.{Printed}
use Rattle.text.specs.declared.printed.Printed.TheVariants.{Number, Letter, SlotHeading, FlowHeading}
use Rattle.trace.specs.declared.fault.Refusal.{Refusal}
use Rattle.trace.specs.Faults.{trace_number, fault_byte}
use Rattle.trace.specs.Replies.{Told, opened, accepted, left, heard, waited, held, listed}

-- n no sample, q a sample without a notice, w a notice that waits, x one that is overrun.
abbrev pub offered_fields : Offered → List Printed
offered_fields offered.Unsampled = Number 0 ∷ Letter 110 ∷ []
offered_fields offered.Quiet = Number 0 ∷ Letter 113 ∷ []
offered_fields (offered.Waiting v) = Number 0 ∷ Letter 119 ∷ Number v ∷ []
offered_fields (offered.Overrun v) = Number 0 ∷ Letter 120 ∷ Number v ∷ []

-- a applied, u unplaced, i ignored.
abbrev pub outcome_fields : Outcome → List Printed
outcome_fields (outcome.Applied slot current) = Number 0 ∷ Letter 97 ∷ Number slot ∷ Number current ∷ []
outcome_fields (outcome.Unplaced who) = Number 0 ∷ Letter 117 ∷ Number who.flow ∷ []
outcome_fields outcome.Ignored = Number 0 ∷ Letter 105 ∷ []

-- A slot, or - without one.
abbrev pub slot_field : Option ℕ → Printed
slot_field (Some i) = Number i
slot_field None = Letter 45

-- The two columns.
abbrev pub row_fields : ListedRow → List Printed
row_fields r = Number r.slot ∷ Number r.serves.flow ∷ []

abbrev pub columns : List ListedRow → List (List Printed)
columns rows = (SlotHeading ∷ FlowHeading ∷ []) ∷ map row_fields rows

-- What leaves: flow, length, mark. A flow's slot, current and target.
abbrev pub left_fields : Frame → List Printed
left_fields f = Number 0 ∷ Number f.from.flow ∷ Number f.length ∷ Number f.mark ∷ []

abbrev pub held_fields : FlowRates → List Printed
held_fields r = Number 0 ∷ slot_field r.slot ∷ Number r.rates.current ∷ Number r.rates.target ∷ []

abbrev pub told_text : Told → List ℕ
told_text opened = line_text (Number 0 ∷ [])
told_text (accepted o) = line_text (offered_fields o)
told_text (left f) = line_text (left_fields f)
told_text (heard o) = line_text (outcome_fields o)
told_text (waited n) = line_text (Number 0 ∷ Number n ∷ [])
told_text (held r) = line_text (held_fields r)
told_text (listed rows) = table_text (columns rows)

-- A refusal: its number, the line, the column, and the byte of a record at fault.
abbrev pub with_byte : Option ℕ → List Printed
with_byte (Some b) = Number b ∷ []
with_byte None = []

abbrev pub refusal_fields : Refusal → List Printed
refusal_fields r = Number (trace_number r.fault) ∷ Number r.line ∷ Number r.column ∷ with_byte (fault_byte r.fault)

abbrev pub printed : Result Told Refusal → List ℕ
printed (Ok t) = told_text t
printed (Err r) = line_text (refusal_fields r)
