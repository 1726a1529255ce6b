use Rattle.std.proofs.Common.{rules}
use Rattle.ring.proofs.Playing.{so_far_more}
use Rattle.ring.proofs.calls.replay.Goals as goal

pub loop-call-preserved : goal.loop-call-preserved
loop-call-preserved g c = search (rules, so_far_more)
