use Rattle.std.proofs.Common.{sym, ap, ◌∙◌}
use Rattle.limiters.specs.Wait.{micros, expiries}
use Rattle.limiters.proofs.Jumps.{free_waits, adds_up}
use Rattle.limiters.proofs.Keeping.{waiting}
use Rattle.limiters.proofs.limiter.Limiter.wait.Goals as goal

pub returns-in-Free : goal.returns-in-Free
returns-in-Free g c =
    let rule = g.R.RateRule.meaning c.args.regime.now.rule in
    let set = c.args.regime.now.settings in
    let free = free_waits rule set.figures c.args.wait in
    record {
      answer = sym (ap (expiries rule set.figures c.args.wait) c.in-Free.is ∙ free.1);
      after = c.in-Free.is ∙ sym (ap (micros rule set.figures c.args.wait) c.in-Free.is ∙ free.0);
      law = adds_up rule set.figures c.args.self.now;
      keeps = waiting rule (g.met.R.RateRule.lawful c.args.regime.now.rule) set.figures set.period_in c.args.wait;
    }

pub returns-in-InService-clause-law : goal.returns-in-InService-clause-law
returns-in-InService-clause-law g c = adds_up _ _ c.args.self.now

pub returns-in-InService-clause-keeps : goal.returns-in-InService-clause-keeps
returns-in-InService-clause-keeps g c = waiting _ (g.met.R.RateRule.lawful c.args.regime.now.rule) _ c.args.regime.now.settings.period_in c.args.wait
