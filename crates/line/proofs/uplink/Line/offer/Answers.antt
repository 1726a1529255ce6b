use Rattle.std.proofs.Common.{rules, Ok, Err, ap, ◌∙◌}
use Rattle.tally.specs.declared.fault.CallFault.TheVariants.{Full}
use Rattle.line.specs.State.{state}
use Rattle.line.proofs.Accepting.{let_in}
use Rattle.line.proofs.Offered.{offer_follows}
use Rattle.line.proofs.uplink.Line.offer.Goals as goal

pub returns-then-not-has_room-clause-follows : goal.returns-then-not-has_room-clause-follows
returns-then-not-has_room-clause-follows g c =
    let met = g.met.N.Notifier in
    let s = state c.args.self.now c.args.frames.now c.args.wire.now in
    offer_follows g.R.RateRule g.N.Notifier met.due met.moves s c.args.who c.args.length (Err Full) _ (search rules) (search rules)

pub returns-in_err-mark-clause-follows : goal.returns-in_err-mark-clause-follows
returns-in_err-mark-clause-follows g c =
    let met = g.met.N.Notifier in
    let s = state c.args.self.now c.args.frames.now c.args.wire.now in
    offer_follows g.R.RateRule g.N.Notifier met.due met.moves s c.args.who c.args.length c.from_residual-in_err-mark.result _ (search rules) (search rules)

pub returns-clause-answer : goal.returns-clause-answer
returns-clause-answer g c =
    let s = state c.args.self.now c.args.frames.now c.args.wire.now in
    ap Ok c.post.ensures.answer
    ∙ let_in g.R.RateRule g.N.Notifier s c.args.who c.args.length c.in_ok-mark.mark c.pages_more-self.result c.show-showing.result (search rules) (search rules) c.pages_more-self.ensures.answer c.show-showing.ensures.answer

pub returns-clause-after : goal.returns-clause-after
returns-clause-after g c = search rules

pub returns-clause-follows : goal.returns-clause-follows
returns-clause-follows g c =
    let met = g.met.N.Notifier in
    let s = state c.args.self.now c.args.frames.now c.args.wire.now in
    offer_follows g.R.RateRule g.N.Notifier met.due met.moves s c.args.who c.args.length (Ok c.post.result) _ (returns-clause-answer g c) (returns-clause-after g c)
