-- The line waits as the tally does.
use Rattle.std.proofs.lemmas.Grind.{common_steps}
use Rattle.std.proofs.Common.{ℕ, true, arith}
use Rattle.rates.specs.declared.rate_rule.RateRule.{Ghosts as RuleGhosts}
use Rattle.notifiers.specs.declared.notifier.Notifier.{Ghosts as NotifierGhosts}
use Rattle.tally.proofs.Soundness.{sound_step}
use Rattle.tally.specs.Steps.{wait, told_wait}
use Rattle.line.specs.Calls.{wait_answer, wait_after}
use Rattle.line.specs.Holds.{Follows}
use Rattle.line.specs.State.{State}

module _ {R N : Type 0} (rr : RuleGhosts R) (nn : NotifierGhosts N) (s : State R N) (n : ℕ) where
  pub waits : Follows rr nn s (wait n) (told_wait (wait_answer rr s n)) (wait_after rr s n)
  waits K t h = (true, tt, grind (arith, common_steps), grind (arith, common_steps, sound_step K t (wait n) true tt h.sound))
