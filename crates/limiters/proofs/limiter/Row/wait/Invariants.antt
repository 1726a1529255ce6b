use Rattle.std.proofs.Common.{◌≡◌, ◌+◌, ◌≤◌}
use Rattle.limiters.specs.declared.limiter.Limiter.TheVariants.{InService}
use Rattle.limiters.specs.Wait.{micros, expiries}
use Rattle.limiters.proofs.limiter.Row.wait.Given as goal

-- what is left gives the answer
abbrev pub invariant-loop-left : goal.invariant-loop-left
invariant-loop-left g l =
    let rule = g.R.RateRule.meaning l.regime.rule in
    let f = l.regime.settings.figures in
    (micros rule f l.left (InService l.self) ≡ micros rule f l.wait (InService l.initial.self))
    × (l.expiries + expiries rule f l.left (InService l.self) ≡ expiries rule f l.wait (InService l.initial.self))
    × (l.expiries + l.left ≤ l.wait)

abbrev pub decreases-loop-left : goal.decreases-loop-left
decreases-loop-left g l = l.left
