-- What follows a tally still does under other names for the call, for its answer and for the state after it.
use Rattle.std.proofs.Common.{◌≡◌, Result, sym, subst}
use Rattle.rates.specs.declared.rate_rule.RateRule.{Ghosts as RuleGhosts}
use Rattle.notifiers.specs.declared.notifier.Notifier.{Ghosts as NotifierGhosts}
use Rattle.tally.specs.Steps.{Asked}
use Rattle.tally.specs.declared.call.Answer.{Answer}
use Rattle.tally.specs.declared.fault.CallFault.{CallFault}
use Rattle.line.specs.Holds.{Follows}
use Rattle.line.specs.State.{State}

module _ {R N : Type 0} (rr : RuleGhosts R) (nn : NotifierGhosts N) (s : State R N) where
  pub carried : (a : Asked) (r r' : Result Answer CallFault) (u u' : State R N) → r' ≡ r → u' ≡ u → Follows rr nn s a r u → Follows rr nn s a r' u'
  carried a r r' u u' answers moves h = subst (λ v. Follows rr nn s a r' v) (sym moves) (subst (λ x. Follows rr nn s a x u) (sym answers) h)

  pub called : (a b : Asked) (r r' : Result Answer CallFault) (u : State R N) → b ≡ a → r' ≡ r → Follows rr nn s a r u → Follows rr nn s b r' u
  called a b r r' u asks answers h = subst (λ x. Follows rr nn s x r' u) (sym asks) (subst (λ x. Follows rr nn s a x u) (sym answers) h)
