use Rattle.std.proofs.Common.{◌≡◌, ◌<◌, max, sym, ap, ◌∙◌, arith}
use Rattle.limiters.specs.declared.limiter.Limiter.TheVariants.{InService}
use Rattle.limiters.specs.Wait.{micros}
use Rattle.limiters.proofs.Jumps.{jump_turn, rest, rest_none, micros_none}
use Rattle.limiters.proofs.limiter.Row.wait.Goals as goal

pub loop-left-preserved : goal.loop-left-preserved
loop-left-preserved g c =
    let rule = g.R.RateRule.meaning c.args.regime.now.rule in
    let f = c.args.regime.now.settings.figures in
    let turn = jump_turn rule f c.loop-left.self c.jumped.result c.loop-left.left c.max-step.result c.max-step.ensures c.jumped.ensures.answer (omega (arith, c.max.ensures, c.max-step.ensures)) in
    (turn.0 ∙ c.loop-left.invariant.0, omega (arith, turn.1, c.loop-left.invariant.1), omega (arith, c.max.ensures, c.max-step.ensures))

pub returns-then-left-gt0 : goal.returns-then-left-gt0
returns-then-left-gt0 g c =
    let rule = g.R.RateRule.meaning c.args.regime.now.rule in
    let f = c.args.regime.now.settings.figures in
    let few : c.loop-left.left < max c.loop-left.self.time_left 1 = omega (arith, c.max.ensures) in
    let none = rest_none rule f c.loop-left.self c.loop-left.left few in
    record {
      answer = omega (arith, none, c.loop-left.invariant.1);
      after = ap InService c.passed.ensures.answer ∙ sym (rest rule f c.loop-left.self c.loop-left.left c.if-left-gt0.true few) ∙ c.loop-left.invariant.0;
    }

pub returns-else-left-gt0 : goal.returns-else-left-gt0
returns-else-left-gt0 g c =
    let rule = g.R.RateRule.meaning c.args.regime.now.rule in
    let f = c.args.regime.now.settings.figures in
    let few : c.loop-left.left < max c.loop-left.self.time_left 1 = omega (arith, c.max.ensures) in
    let none = rest_none rule f c.loop-left.self c.loop-left.left few in
    let over : c.loop-left.left ≡ 0 = omega arith in
    record {
      answer = omega (arith, none, c.loop-left.invariant.1);
      after = sym (ap (λ n. micros rule f n (InService c.loop-left.self)) over ∙ micros_none rule f (InService c.loop-left.self)) ∙ c.loop-left.invariant.0;
    }
