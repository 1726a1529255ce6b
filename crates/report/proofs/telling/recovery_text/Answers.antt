use Rattle.std.proofs.Common.{◌≡◌, ℕ, vec_items, ap, ◌∙◌}
use Rattle.std.proofs.lemmas.Result.{IfOk-weaker}
use Rattle.rates.specs.Rule.{Rule}
use Rattle.settings.specs.declared.figures.Figures.{Figures}
use Rattle.silence.specs.Expiries.{struck, recovery}
use Rattle.silence.specs.Recovery.{Recovered}
use Rattle.silence.specs.declared.expiry.Recovery.{Recovery}
use Rattle.report.specs.Answered.{recovery_text}
use Rattle.report.specs.Text.{way_text, way_said}
use Rattle.report.proofs.telling.recovery_text.Goals as goal

-- the text of a recovery from a notice
told : (rule : Rule) (f : Figures) (value : ℕ) (w : Recovery) → Recovered rule f value w → way_text f.line_rate w ≡ recovery_text rule f value
unfolding recovery_text
told rule f value w h =
    let line = f.line_rate in
    ap (λ s. way_said line s (vec_items w.rows) w.end) h.start
    ∙ ap (λ rows. way_said line (struck rule f value) rows w.end) h.rows
    ∙ ap (way_said line (struck rule f value) (recovery rule f value)) h.end

pub returns : goal.returns
returns g c =
    let way = c.in_ok-way.way in
    let regime = c.args.regime.now in
    let said = ap (λ line. way_text line way) c.line_rate.ensures.answer ∙ told (g.R.RateRule.meaning regime.rule) regime.settings.figures c.args.value way c.in_ok-way.ensures.answer in
    record { answer = IfOk-weaker c.way_text.result _ _ (λ t e. e ∙ said) c.way_text.ensures.answer }
