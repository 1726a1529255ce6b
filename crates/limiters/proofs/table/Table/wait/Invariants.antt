use Rattle.std.proofs.Common.{◌≡◌, ◌*◌, ◌≤◌, ◌++◌, map, take, drop, sum_by}
use Rattle.limiters.specs.Wait.{micros, expiries}
use Rattle.limiters.proofs.table.Table.wait.Given as goal

-- the slots before this one have waited, and their expiries are counted
abbrev pub invariant-loop-limiter : goal.invariant-loop-limiter
invariant-loop-limiter g l =
    let rule = g.R.RateRule.meaning l.regime.rule in
    let f = l.regime.settings.figures in
    (l.limiter-items ≡ map (micros rule f l.wait) (take l.limiter-index l.fn.self.slots) ++ drop l.limiter-index l.fn.self.slots)
    × (l.expiries ≡ sum_by (expiries rule f l.wait) (take l.limiter-index l.fn.self.slots))
    × (l.expiries ≤ 4294967296 * l.limiter-index)
