-- What a line of a trace is answered.
use Rattle.std.specs.Prelude.{ℕ, List, take, Ok, Err, Result}
use Rattle.line.specs.declared.listing.FlowRates.{FlowRates}
use Rattle.line.specs.declared.listing.ListedRow.{ListedRow}
use Rattle.tally.specs.declared.call.Answer.{Answer}
use Rattle.tally.specs.declared.call.Answer.TheVariants as answer
use Rattle.tally.specs.declared.call.Offered.{Offered}
use Rattle.tally.specs.declared.call.Outcome.{Outcome}
use Rattle.tally.specs.declared.frame.Frame.{Frame}
use Rattle.trace.specs.declared.fault.TraceFault.{TraceFault}
use Rattle.trace.specs.declared.reply.Reply.{Reply}
use Rattle.trace.specs.declared.reply.Reply.TheVariants as reply

-- A reply by what it tells.
pub data Told : Type 0 where
  opened : Told
  accepted : Offered → Told
  left : Frame → Told
  heard : Outcome → Told
  waited : ℕ → Told
  held : FlowRates → Told
  listed : List ListedRow → Told

abbrev pub answer_told : Answer → Told
answer_told (answer.Accepted o) = accepted o
answer_told (answer.Left f) = left f
answer_told (answer.Heard o) = heard o
answer_told (answer.Waited n) = waited n

abbrev pub told : Reply → Told
told reply.Opened = opened
told (reply.Answered a) = answer_told a
told (reply.Held r) = held r
told (reply.Listed l) = listed (take l.count l.rows)

abbrev pub told_reply : Result Reply TraceFault → Result Told TraceFault
told_reply (Ok r) = Ok (told r)
told_reply (Err e) = Err e
