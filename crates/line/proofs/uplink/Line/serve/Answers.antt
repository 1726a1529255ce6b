use Rattle.tally.proofs.Laws.{holds_always}
use Rattle.tally.specs.Tally.{opened}
use Rattle.line.proofs.uplink.Line.serve.Goals as goal

pub returns-in_err-line-clause-law : goal.returns-in_err-line-clause-law
returns-in_err-line-clause-law g c = holds_always

pub returns-clause-serves : goal.returns-clause-serves
returns-clause-serves g c =
    let start = c.in_ok-line.ensures.holds in
    let old = (g.N.Notifier.meter c.args.notifier).old in
    let ran = c.make_calls.ensures.runs start.0 (opened old) start.2 in
    record { constants = start.0; fixed = start.1; ran = ran; promises = holds_always.promised start.0 old ran.moments ran.last ran.run }

pub returns-clause-law : goal.returns-clause-law
returns-clause-law g c = holds_always
