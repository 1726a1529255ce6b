use Rattle.std.proofs.Common.{rules, subst}
use Rattle.tally.specs.Tally.{opened}
use Rattle.line.specs.Holds.{Holds}
use Rattle.line.proofs.Opened.{opens}
use Rattle.line.proofs.uplink.Line.open.Goals as goal

pub returns-clause-holds : goal.returns-clause-holds
returns-clause-holds g c =
    let rr = g.R.RateRule in
    let nn = g.N.Notifier in
    let frames = c.args.frames.now in
    let wire = c.args.wire.now in
    let holds = opens rr nn c.args.regime c.args.notifier frames wire (g.met.R.RateRule.lawful c.args.regime.rule) (search rules) in
    (holds.0, holds.1, subst (λ s. Holds rr nn holds.0 s (opened (nn.meter c.args.notifier).old)) (search rules) holds.2)
