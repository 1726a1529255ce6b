use Rattle.std.proofs.Common.{rules, ap}
use Rattle.tally.specs.Saying.{said}
use Rattle.tally.specs.Steps.{offer, leave, deliver, receive, wait, told_offer, told_leave, told_notice, told_wait}
use Rattle.line.specs.State.{state}
use Rattle.line.proofs.Following.{called}
use Rattle.line.proofs.uplink.Line.make_call.Goals as goal

pub returns-in-Offer-clause-follows : goal.returns-in-Offer-clause-follows
returns-in-Offer-clause-follows g c =
    let s = state c.args.self.now c.args.frames.now c.args.wire.now in
    called g.R.RateRule g.N.Notifier s (offer c.in-Offer.who c.in-Offer.length) (said c.args.call) (told_offer c.offer.result) _ _ (ap said c.in-Offer.is) (search rules) c.offer.ensures.follows

pub returns-in-Leave-clause-follows : goal.returns-in-Leave-clause-follows
returns-in-Leave-clause-follows g c =
    let s = state c.args.self.now c.args.frames.now c.args.wire.now in
    called g.R.RateRule g.N.Notifier s leave (said c.args.call) (told_leave c.leave.result) _ _ (ap said c.in-Leave.is) (search rules) c.leave.ensures.follows

pub returns-in-Deliver-clause-follows : goal.returns-in-Deliver-clause-follows
returns-in-Deliver-clause-follows g c =
    let s = state c.args.self.now c.args.frames.now c.args.wire.now in
    called g.R.RateRule g.N.Notifier s deliver (said c.args.call) (told_notice c.deliver.result) _ _ (ap said c.in-Deliver.is) (search rules) c.deliver.ensures.follows

pub returns-in-Receive-clause-follows : goal.returns-in-Receive-clause-follows
returns-in-Receive-clause-follows g c =
    let s = state c.args.self.now c.args.frames.now c.args.wire.now in
    called g.R.RateRule g.N.Notifier s (receive c.in-Receive.bytes.now) (said c.args.call) (told_notice c.receive.result) _ _ (ap said c.in-Receive.is) (search rules) c.receive.ensures.follows

pub returns-in-Wait-clause-follows : goal.returns-in-Wait-clause-follows
returns-in-Wait-clause-follows g c =
    let s = state c.args.self.now c.args.frames.now c.args.wire.now in
    called g.R.RateRule g.N.Notifier s (wait c.in-Wait.wait) (said c.args.call) (told_wait c.wait.result) _ _ (ap said c.in-Wait.is) (search rules) c.wait.ensures.follows
