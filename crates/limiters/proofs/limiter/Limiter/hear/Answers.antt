use Rattle.limiters.proofs.Keeping.{hearing}
use Rattle.limiters.proofs.limiter.Limiter.hear.Goals as goal

pub returns-in-InService-clause-law : goal.returns-in-InService-clause-law
returns-in-InService-clause-law g c = hearing _ (g.met.R.RateRule.lawful c.args.regime.now.rule) _ c.args.regime.now.settings.period_in c.args.regime.now.settings.line_rate_in c.args.value
