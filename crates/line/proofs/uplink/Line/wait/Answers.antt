use Rattle.std.proofs.Common.{rules}
use Rattle.tally.specs.Steps.{wait}
use Rattle.line.specs.State.{state}
use Rattle.line.proofs.Waited.{waits}
use Rattle.line.proofs.Following.{carried}
use Rattle.line.proofs.uplink.Line.wait.Goals as goal

pub returns-clause-follows : goal.returns-clause-follows
returns-clause-follows g c =
    let s = state c.args.self.now c.args.frames.now c.args.wire.now in
    carried g.R.RateRule g.N.Notifier s (wait c.args.wait) _ _ _ _ (search rules) (search rules) (waits g.R.RateRule g.N.Notifier s c.args.wait)
