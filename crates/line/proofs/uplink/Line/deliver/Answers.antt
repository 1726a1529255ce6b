use Rattle.std.proofs.Common.{rules}
use Rattle.tally.specs.Steps.{deliver}
use Rattle.line.specs.State.{state}
use Rattle.line.proofs.Arrived.{delivers}
use Rattle.line.proofs.Following.{carried}
use Rattle.line.proofs.uplink.Line.deliver.Goals as goal

pub returns-clause-follows : goal.returns-clause-follows
returns-clause-follows g c =
    let s = state c.args.self.now c.args.frames.now c.args.wire.now in
    carried g.R.RateRule g.N.Notifier s deliver _ _ _ _ (search rules) (search rules) (delivers g.R.RateRule g.N.Notifier s)
