use Rattle.std.proofs.Common.{arith}
use Rattle.std.proofs.lemmas.Int.{ints}
use Rattle.notifiers.proofs.Feedback.{spread}
use Rattle.notifiers.proofs.severity.Queue.feedback.Goals as goal

pub returns : goal.returns
returns c = omega (arith, ints, spread c.args.self.weight c.args.self.pages c.args.self.old)
