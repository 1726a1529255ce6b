use Rattle.std.proofs.Common.{rules, ap}
use Rattle.commands.specs.Said.{meant}
use Rattle.line.specs.State.{state}
use Rattle.trace.proofs.Beginning.{begun, not_begun}
use Rattle.trace.proofs.session.Session.begin.Goals as goal

pub returns-in_err-open_line-clause-answer : goal.returns-in_err-open_line-clause-answer
returns-in_err-open_line-clause-answer c =
    let s = c.args.self.now in
    let h = not_begun c.in-Open.opening s.frames s.wire s.line (meant c.args.command) c.requires (ap meant c.in-Open.is) c.in_err-open_line.field-0.0 c.in_err-open_line.ensures.answer in
    search (rules, h.0)

pub returns-clause-after : goal.returns-clause-after
returns-clause-after c =
    let s = c.args.self.now in
    let h = begun c.in-Open.opening s.frames s.wire s.line (meant c.args.command) c.requires (ap meant c.in-Open.is) (state c.in_ok-open_line.field-0 s.frames s.wire) c.in_ok-open_line.ensures.answer in
    h.1
