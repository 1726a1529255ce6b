-- A wait, from any state; and whichever call it is.
use Rattle.std.specs.Prelude.{ℕ, cond, map, Ok, Err, sum_by, Result, nat_le}
use Rattle.rates.specs.declared.rate_rule.RateRule.{Ghosts as RuleGhosts}
use Rattle.notifiers.specs.declared.notifier.Notifier.{Ghosts as NotifierGhosts}
use Rattle.limiters.specs.Wait.{micros, expiries}
use Rattle.tally.specs.Steps.{Asked, offer, leave, deliver, receive, wait, longest_wait, told_offer, told_leave, told_notice, told_wait}
use Rattle.tally.specs.declared.call.Answer.{Answer}
use Rattle.tally.specs.declared.fault.CallFault.{CallFault}
use Rattle.tally.specs.declared.fault.CallFault.TheVariants as fault
use Rattle.line.specs.Offer as offering
use Rattle.line.specs.State.{State, sized, with_limiters}
use Rattle.line.specs.Taking.{leave_answer, leave_after, deliver_answer, deliver_after, receive_answer, receive_after}

module _ {R N : Type 0} (rr : RuleGhosts R) (s : State R N) (n : ℕ) where
  abbrev pub wait_answer : Result ℕ CallFault
  wait_answer =
      cond (sized s)
      (cond (nat_le n longest_wait) (Ok (sum_by (expiries (rr.meaning s.regime.rule) s.regime.settings.figures n) s.slots)) (Err fault.Wait))
      (Err fault.Memory)

  abbrev pub wait_after : State R N
  wait_after =
      cond (sized s)
      (cond (nat_le n longest_wait) (with_limiters s (map (micros (rr.meaning s.regime.rule) s.regime.settings.figures n) s.slots) s.cursor s.wire_ring) s)
      s

module _ {R N : Type 0} (rr : RuleGhosts R) (nn : NotifierGhosts N) (s : State R N) where
  abbrev pub answer_of : Asked → Result Answer CallFault
  answer_of (offer who n) = told_offer (offering.answer rr nn s who n)
  answer_of leave = told_leave (leave_answer s)
  answer_of deliver = told_notice (deliver_answer rr s)
  answer_of (receive bytes) = told_notice (receive_answer rr s bytes)
  answer_of (wait n) = told_wait (wait_answer rr s n)

  abbrev pub state_after : Asked → State R N
  state_after (offer who n) = offering.after rr nn s who n
  state_after leave = leave_after s
  state_after deliver = deliver_after rr s
  state_after (receive bytes) = receive_after rr s bytes
  state_after (wait n) = wait_after rr s n
