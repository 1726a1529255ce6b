-- What an opening does before a line is open, by what was settled.
use Rattle.std.proofs.Common.{◌≡◌, List, None, Ok, Err, Option, Result, sym, refl, ap, ◌∙◌}
use Rattle.commands.specs.Said.{Said, opens}
use Rattle.commands.specs.declared.command.Opening.{Opening}
use Rattle.settings.specs.declared.accepted.Settings.{Settings}
use Rattle.settings.specs.declared.fault.SettingsFault.{SettingsFault}
use Rattle.rates.specs.declared.chosen.ChosenRule.{ChosenRule}
use Rattle.notifiers.specs.declared.chosen.ChosenNotifier.{ChosenNotifier}
use Rattle.line.specs.declared.uplink.Line.{Line}
use Rattle.tally.specs.declared.frame.Frame.{Frame}
use Rattle.tally.specs.declared.notice.Notice.{Notice}
use Rattle.trace.specs.declared.fault.TraceFault.{TraceFault}
use Rattle.trace.specs.declared.fault.TraceFault.TheVariants.{Settings as Unsettled}
use Rattle.trace.specs.Replies.{opened}
use Rattle.trace.specs.Session.{Serving, shut, serving, situation_of, new_serving, opened_line, opening_reply, opened_by, reply_to, situation_after}
use Rattle.trace.specs.Settled.{settled}
use Rattle.trace.proofs.Settling.{same_ok, same_err, apart}

module _ (o : Opening) (frames : List Frame) (wire : List Notice) where
  by_ok : (r : Result Settings SettingsFault) (s : Serving) → Ok s ≡ opened_line o frames wire r → (Ok opened ≡ opening_reply r) × (serving s ≡ opened_by o frames wire r)
  by_ok (Ok set) s is = (refl, ap serving (same_ok s (new_serving o set frames wire) is))
  by_ok (Err e) s is = absurd (apart s (Unsettled e) is)

  by_err : (r : Result Settings SettingsFault) (e : TraceFault) → Err e ≡ opened_line o frames wire r → (Err e ≡ opening_reply r) × (shut frames wire ≡ opened_by o frames wire r)
  by_err (Ok set) e is = absurd (apart (new_serving o set frames wire) e (sym is))
  by_err (Err x) e is = (ap (λ (y : TraceFault). Err y) (same_err e (Unsettled x) is), refl)

  module _ (line : Option (Line ChosenRule ChosenNotifier)) (c : Said) (none : line ≡ None) (asks : c ≡ opens o) where
    pub begun : (s : Serving) → Ok s ≡ opened_line o frames wire (settled o.figures) → (Ok opened ≡ reply_to (situation_of line frames wire) c) × (serving s ≡ situation_after (situation_of line frames wire) c)
    begun s is =
        let h = by_ok (settled o.figures) s is in
        (h.0 ∙ sym (λ i. reply_to (situation_of (none i) frames wire) (asks i)), h.1 ∙ sym (λ i. situation_after (situation_of (none i) frames wire) (asks i)))

    pub not_begun : (e : TraceFault) → Err e ≡ opened_line o frames wire (settled o.figures)
        → (Err e ≡ reply_to (situation_of line frames wire) c) × (situation_of line frames wire ≡ situation_after (situation_of line frames wire) c)
    not_begun e is =
        let h = by_err (settled o.figures) e is in
        (h.0 ∙ sym (λ i. reply_to (situation_of (none i) frames wire) (asks i)), (λ i. situation_of (none i) frames wire) ∙ h.1 ∙ sym (λ i. situation_after (situation_of (none i) frames wire) (asks i)))
