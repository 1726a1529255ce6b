use Rattle.std.proofs.Common.{rules}
use Rattle.tally.specs.Steps.{receive}
use Rattle.line.specs.State.{state}
use Rattle.line.proofs.Arrived.{receives}
use Rattle.line.proofs.Following.{carried}
use Rattle.line.proofs.uplink.Line.receive.Goals as goal

pub returns-clause-follows : goal.returns-clause-follows
returns-clause-follows g c =
    let s = state c.args.self.now c.args.frames.now c.args.wire.now in
    carried g.R.RateRule g.N.Notifier s (receive c.args.bytes.now) _ _ _ _ (search rules) (search rules) (receives g.R.RateRule g.N.Notifier s c.args.bytes.now)
