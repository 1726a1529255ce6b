use Rattle.std.proofs.Common.{rules, Ok, Err, ap, ◌∙◌}
use Rattle.trace.specs.Session.{opened_line}
use Rattle.trace.proofs.Settling.{settles}
use Rattle.trace.proofs.session.Session.open_line.Goals as goal

pub returns-in_err-settings : goal.returns-in_err-settings
returns-in_err-settings c =
    let is = settles (Err c.in_err-settings.field-0.0) c.args.opening.figures c.in_err-settings.ensures.answer in
    search (rules, is)

pub returns : goal.returns
returns c =
    let is = settles (Ok c.in_ok-settings.settings) c.args.opening.figures c.in_ok-settings.ensures.answer in
    record { answer = ap Ok c.open_with.ensures.answer ∙ ap (opened_line c.args.opening c.args.self.now.frames c.args.self.now.wire) is }
