use Rattle.std.proofs.Common.{◌<◌, length, set, ap, ◌∙◌, arith}
use Rattle.std.proofs.lemmas.List.Sums.{sum_by_more}
use Rattle.limiters.specs.declared.limiter.Limiter.TheVariants.{Free}
use Rattle.limiters.specs.Wait.{micros, expiries}
use Rattle.limiters.proofs.Mapping.{mapped_at, mapped_more}
use Rattle.limiters.proofs.Singles.{stays_single}
use Rattle.limiters.proofs.table.Table.wait.Goals as goal

pub loop-limiter-preserved : goal.loop-limiter-preserved
loop-limiter-preserved g c =
    let rule = g.R.RateRule.meaning c.args.regime.now.rule in
    let f = c.args.regime.now.settings.figures in
    let wait = micros rule f c.args.wait in
    let count = expiries rule f c.args.wait in
    let xs = c.args.self.now.slots in
    let ys = c.loop-limiter.limiter-items in
    let i = c.loop-limiter.limiter-index in
    let within : i < length xs = omega (arith, c.args.self.now.long) in
    let here = mapped_at wait xs ys i Free within c.loop-limiter.invariant.0 in (
      ap (set ys i) c.wait.ensures.after ∙ mapped_more wait xs ys i Free within c.loop-limiter.invariant.0,
      omega (arith, sum_by_more count xs i Free within, c.wait.ensures.answer ∙ ap count here, c.loop-limiter.invariant.1),
      omega (arith, c.loop-limiter.invariant.2, c.wait.type_inv),
    )

pub returns-clause-law : goal.returns-clause-law
returns-clause-law g c = stays_single _ _
