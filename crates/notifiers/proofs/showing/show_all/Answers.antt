use Rattle.notifiers.proofs.Runs.{kept}
use Rattle.notifiers.proofs.showing.show_all.Goals as goal

pub returns-in_err-push-clause-law : goal.returns-in_err-push-clause-law
returns-in_err-push-clause-law g c =
    let n = g.N.Notifier in
    let laws = g.met.N.Notifier in
    kept n.meter n.samples n.next laws.due laws.moves laws.alone c.args.notifier.now c.args.frames.now

pub returns-clause-law : goal.returns-clause-law
returns-clause-law g c =
    let n = g.N.Notifier in
    let laws = g.met.N.Notifier in
    kept n.meter n.samples n.next laws.due laws.moves laws.alone c.args.notifier.now c.args.frames.now
