use Rattle.std.proofs.Common.{◌≡◌, ◌<◌, map, length, take, drop, refl, subst, arith}
use Rattle.std.proofs.lemmas.List.{get_or-take, length-take}
use Rattle.tally.specs.Saying.{said}
use Rattle.tally.specs.declared.call.Call.TheVariants.{Offer}
use Rattle.line.specs.Holds.{Follows}
use Rattle.line.specs.Serving.{made_of, Runs}
use Rattle.line.specs.State.{state}
use Rattle.line.proofs.Ranging.{ran_none, ran_next, rest_next}
use Rattle.line.proofs.uplink.Line.make_calls.Goals as goal

pub loop-place-init : goal.loop-place-init
loop-place-init g c = (ran_none g.R.RateRule g.N.Notifier (state c.args.self.now c.args.frames.now c.args.wire.now), refl)

pub loop-place-preserved : goal.loop-place-preserved
loop-place-preserved g c =
    let rr = g.R.RateRule in
    let nn = g.N.Notifier in
    let start = state c.args.self.now c.args.frames.now c.args.wire.now in
    let here = state c.loop-place.self c.loop-place.frames c.loop-place.wire in
    let then' = state c.make_call.new.self c.make_call.new.frames c.make_call.new.wire in
    let calls = c.args.calls.now in
    let place = c.loop-place.place in
    let count = c.min-count.result in
    let none = Offer (record { flow = 0 }) 0 in
    let before : place < count = omega (arith, length-take count calls, c.loop-place-test.true) in
    let in-calls : place < length calls = omega (arith, c.min-count.ensures) in
    let in-answers : place < length c.loop-place.answers = omega (arith, c.min-count.ensures, c.loop-place.auto.answers) in
    let follows = subst (λ d. Follows rr nn here (said d) c.make_call.result then') (get_or-take count calls place none before) c.make_call.ensures.follows in (
      ran_next rr nn start here then' calls c.loop-place.answers place none c.make_call.result in-calls in-answers c.loop-place.invariant.0 follows,
      rest_next c.loop-place.answers c.args.answers.now place c.make_call.result c.loop-place.invariant.1,
    )

pub returns : goal.returns
returns g c =
    let start = state c.args.self.now c.args.frames.now c.args.wire.now in
    let end = state c.loop-place.self c.loop-place.frames c.loop-place.wire in
    let all : c.loop-place.place ≡ made_of c.args.calls.now c.args.answers.now =
    omega (arith, length-take c.min-count.result c.args.calls.now, c.min-count.ensures, c.loop-place-test.false, c.loop-place.auto.place-end) in
    record {
      runs = subst (λ n. Runs g.R.RateRule g.N.Notifier start (map said (take n c.args.calls.now)) (take n c.loop-place.answers) end) all c.loop-place.invariant.0;
      rest = subst (λ n. drop n c.loop-place.answers ≡ drop n c.args.answers.now) all c.loop-place.invariant.1;
    }
