-- What a command does: before a line is opened, and on the line that was.
use Rattle.std.specs.Prelude.{ℕ, List, [], replicate, Some, None, Ok, Err, Option, Result}
use Rattle.std.specs.Option.{unwrap_or}
use Rattle.commands.specs.Said.{Said}
use Rattle.commands.specs.Said as said
use Rattle.fields.specs.Hexadecimals.{hex_of}
use Rattle.settings.specs.declared.accepted.Settings.{Settings}
use Rattle.settings.specs.declared.fault.SettingsFault.{SettingsFault}
use Rattle.rates.specs.Chosen.{meant, chosen_rule}
use Rattle.rates.specs.declared.chosen.ChosenRule.{ChosenRule}
use Rattle.rates.specs.declared.rate_rule.RateRule.{Ghosts as RuleGhosts}
use Rattle.notifiers.specs.Chosen.{chosen_new, chosen_meter, chosen_samples, chosen_next}
use Rattle.notifiers.specs.declared.chosen.ChosenNotifier.{ChosenNotifier}
use Rattle.notifiers.specs.declared.notifier.Notifier.{Ghosts as NotifierGhosts}
use Rattle.limiters.specs.declared.limiter.Identity.{Identity}
use Rattle.commands.specs.declared.command.Opening.{Opening}
use Rattle.line.specs.Calls.{answer_of, state_after}
use Rattle.line.specs.Opening.{new_state}
use Rattle.line.specs.Reading.{rates_of_flow, listed}
use Rattle.line.specs.State.{State, state}
use Rattle.line.specs.declared.uplink.Line.{Line}
use Rattle.tally.specs.Steps as asked
use Rattle.tally.specs.Steps.{Asked}
use Rattle.tally.specs.declared.call.Answer.{Answer}
use Rattle.tally.specs.declared.fault.CallFault.{CallFault}
use Rattle.tally.specs.declared.frame.Frame.{Frame}
use Rattle.tally.specs.declared.notice.Notice.{Notice}
use Rattle.trace.specs.declared.session.Session.{Session}
use Rattle.trace.specs.declared.fault.TraceFault.{TraceFault}
use Rattle.trace.specs.declared.fault.TraceFault.TheVariants.{Order, Settings as Unsettled, Call}
use Rattle.trace.specs.Replies as replies
use Rattle.trace.specs.Replies.{Told}
use Rattle.trace.specs.Settled.{settled}

-- What the chosen rule and the chosen notifier mean.
abbrev pub rule_meaning : RuleGhosts ChosenRule
rule_meaning = record { meaning = meant }

abbrev pub notifier_meaning : NotifierGhosts ChosenNotifier
notifier_meaning = record { meter = chosen_meter; samples = chosen_samples; next = chosen_next }

abbrev pub Serving : Type 0
Serving = State ChosenRule ChosenNotifier

-- A trace's line of service: not yet opened, over memories that hold this; or in service.
pub data Situation : Type 0 where
  shut : List Frame → List Notice → Situation
  serving : Serving → Situation

-- 256 frame places and 32 wire places, all blank.
abbrev pub no_flow : Identity
no_flow = record { flow = 0 }

abbrev pub beginning : Situation
beginning = shut (replicate 256 (record { from = no_flow; length = 0; mark = 0 })) (replicate 32 (record { to = no_flow; value = 0 }))

abbrev pub identity : ℕ → Identity
identity flow = record { flow = flow }

-- An opening: the settings' fault, or a line with the rule and the notifier that the letters name.
abbrev pub opening_reply : Result Settings SettingsFault → Result Told TraceFault
opening_reply (Ok set) = Ok replies.opened
opening_reply (Err e) = Err (Unsettled e)

abbrev pub new_serving : Opening → Settings → List Frame → List Notice → Serving
new_serving o set frames wire = new_state (record { rule = chosen_rule o.rule set; settings = set }) (chosen_new o.notifier set) frames wire

abbrev pub opened_line : Opening → List Frame → List Notice → Result Settings SettingsFault → Result Serving TraceFault
opened_line o frames wire (Ok set) = Ok (new_serving o set frames wire)
opened_line o frames wire (Err e) = Err (Unsettled e)

abbrev pub opened_by : Opening → List Frame → List Notice → Result Settings SettingsFault → Situation
opened_by o frames wire (Ok set) = serving (new_serving o set frames wire)
opened_by o frames wire (Err e) = shut frames wire

-- A call's answer: a refusal is the trace's.
abbrev pub answer_reply : Result Answer CallFault → Result Told TraceFault
answer_reply (Ok a) = Ok (replies.answer_told a)
answer_reply (Err e) = Err (Call e)

-- The bytes that digits write.
abbrev pub bytes_of : List ℕ → List ℕ
bytes_of digits = unwrap_or (hex_of digits) []

-- What a command asks of a line in service: one of the five calls, a flow's rates, or the columns.
abbrev pub call_reply : Serving → Asked → Result Told TraceFault
call_reply s a = answer_reply (answer_of rule_meaning notifier_meaning s a)

abbrev pub call_after : Serving → Asked → Situation
call_after s a = serving (state_after rule_meaning notifier_meaning s a)

-- An opening is asked for once, first; all else after it.
abbrev pub shut_reply : Said → Result Told TraceFault
shut_reply (said.opens o) = opening_reply (settled o.figures)
shut_reply (said.offers flow n) = Err Order
shut_reply said.leaves = Err Order
shut_reply said.delivers = Err Order
shut_reply (said.receives digits) = Err Order
shut_reply (said.waits n) = Err Order
shut_reply (said.rates flow) = Err Order
shut_reply said.columns = Err Order

abbrev pub shut_after : List Frame → List Notice → Said → Situation
shut_after frames wire (said.opens o) = opened_by o frames wire (settled o.figures)
shut_after frames wire (said.offers flow n) = shut frames wire
shut_after frames wire said.leaves = shut frames wire
shut_after frames wire said.delivers = shut frames wire
shut_after frames wire (said.receives digits) = shut frames wire
shut_after frames wire (said.waits n) = shut frames wire
shut_after frames wire (said.rates flow) = shut frames wire
shut_after frames wire said.columns = shut frames wire

abbrev pub serving_reply : Serving → Said → Result Told TraceFault
serving_reply s (said.opens o) = Err Order
serving_reply s (said.offers flow n) = call_reply s (asked.offer (identity flow) n)
serving_reply s said.leaves = call_reply s asked.leave
serving_reply s said.delivers = call_reply s asked.deliver
serving_reply s (said.receives digits) = call_reply s (asked.receive (bytes_of digits))
serving_reply s (said.waits n) = call_reply s (asked.wait n)
serving_reply s (said.rates flow) = Ok (replies.held (rates_of_flow s.regime.settings.figures.line_rate (identity flow) s.slots))
serving_reply s said.columns = Ok (replies.listed (listed 0 s.slots))

abbrev pub serving_after : Serving → Said → Situation
serving_after s (said.opens o) = serving s
serving_after s (said.offers flow n) = call_after s (asked.offer (identity flow) n)
serving_after s said.leaves = call_after s asked.leave
serving_after s said.delivers = call_after s asked.deliver
serving_after s (said.receives digits) = call_after s (asked.receive (bytes_of digits))
serving_after s (said.waits n) = call_after s (asked.wait n)
serving_after s (said.rates flow) = serving s
serving_after s said.columns = serving s

abbrev pub reply_to : Situation → Said → Result Told TraceFault
reply_to (shut frames wire) c = shut_reply c
reply_to (serving s) c = serving_reply s c

abbrev pub situation_after : Situation → Said → Situation
situation_after (shut frames wire) c = shut_after frames wire c
situation_after (serving s) c = serving_after s c

-- A session by its situation.
abbrev pub situation_of : Option (Line ChosenRule ChosenNotifier) → List Frame → List Notice → Situation
situation_of None frames wire = shut frames wire
situation_of (Some l) frames wire = serving (state l frames wire)

abbrev pub situation : Session → Situation
situation s = situation_of s.line s.frames s.wire

-- A line that was opened, by its state.
abbrev pub told_line : List Frame → List Notice → Result (Line ChosenRule ChosenNotifier) TraceFault → Result Serving TraceFault
told_line frames wire (Ok l) = Ok (state l frames wire)
told_line frames wire (Err e) = Err e
