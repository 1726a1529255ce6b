use Rattle.std.proofs.Common.{◌≡◌, ◌-◌, ◌*◌, ◌≤◌, ◌++◌, vec_items}
use Rattle.silence.specs.Expiries.{bound, expiries, last}
use Rattle.silence.specs.Stands.{shown, ServingWithin}
use Rattle.silence.proofs.expiry.follow.Given as goal

-- the rows so far, and what is still to come, are all that follow
abbrev pub invariant-loop : goal.invariant-loop
invariant-loop g l =
    let rule = g.R.RateRule.meaning l.regime.rule in
    let f = l.regime.settings.figures in
    (vec_items l.rows ++ expiries rule f (bound - l.counter) l.stand ≡ expiries rule f bound l.start)
    × (l.end ≡ last (shown l.start) (vec_items l.rows))
    × (l.end ≡ shown l.stand)
    × (l.stand.number ≡ l.counter)
    × (l.stand.time ≤ 100000 * l.counter)
    × ServingWithin rule f l.stand.limiter
