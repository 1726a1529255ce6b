-- What is taken off: the oldest frame, the oldest notice; and a notice that arrives, from any state.
use Rattle.std.specs.Prelude.{ℕ, ◌-◌, min, cond, List, [], ◌∷◌, Ok, Err, Result}
use Rattle.rates.specs.declared.rate_rule.RateRule.{Ghosts as RuleGhosts}
use Rattle.record.specs.Decoded.{decoded}
use Rattle.record.specs.declared.Record.{Record}
use Rattle.record.specs.declared.faults.ReadFault.{ReadFault}
use Rattle.ring.specs.Held.{waiting}
use Rattle.ring.specs.Standing.{Standing, popped}
use Rattle.tally.specs.Heeding.{heeded, slots_heeding, cursor_heeding}
use Rattle.tally.specs.Steps.{left_from, notice_in}
use Rattle.tally.specs.Tally.{pages}
use Rattle.tally.specs.declared.call.Outcome.{Outcome}
use Rattle.tally.specs.declared.fault.CallFault.{CallFault}
use Rattle.tally.specs.declared.fault.CallFault.TheVariants as fault
use Rattle.tally.specs.declared.frame.Frame.{Frame}
use Rattle.tally.specs.declared.notice.Notice.{Notice}
use Rattle.line.specs.State.{State, sized, with_frames, with_limiters}

-- A wire value above 63 counts as 63: other hands may have written it.
abbrev pub lawful_notice : Notice → Notice
lawful_notice n = record { to = n.to; value = min n.value 63 }

module _ {R N : Type 0} (s : State R N) where
  -- The oldest frame leaves, and its pages with it; they stop at 0.
  abbrev pub left_by : List Frame → State R N
  left_by [] = s
  left_by (f ∷ fs) = with_frames s (popped s.frame_ring) (s.pages - pages f.length)

  abbrev pub leave_answer : Result Frame CallFault
  leave_answer = cond (sized s) (left_from (waiting s.frame_ring s.frames)) (Err fault.Memory)

  abbrev pub leave_after : State R N
  leave_after = cond (sized s) (left_by (waiting s.frame_ring s.frames)) s

module _ {R N : Type 0} (rr : RuleGhosts R) (s : State R N) where
  -- A notice arrives, and the wire stands so then.
  abbrev pub outcome : Notice → Outcome
  outcome n = heeded (rr.meaning s.regime.rule) s.regime.settings.figures s.cursor s.slots n

  abbrev pub heeding : Notice → Standing → State R N
  heeding n ring =
      with_limiters s (slots_heeding (rr.meaning s.regime.rule) s.regime.settings.figures s.cursor s.slots n) (cursor_heeding (rr.meaning s.regime.rule) s.regime.settings.figures s.cursor s.slots n) ring

  abbrev pub delivered_from : List Notice → Result Outcome CallFault
  delivered_from [] = Err fault.NoNotice
  delivered_from (n ∷ ns) = Ok (outcome (lawful_notice n))

  abbrev pub delivered_by : List Notice → State R N
  delivered_by [] = s
  delivered_by (n ∷ ns) = heeding (lawful_notice n) (popped s.wire_ring)

  abbrev pub deliver_answer : Result Outcome CallFault
  deliver_answer = cond (sized s) (delivered_from (waiting s.wire_ring s.wire)) (Err fault.Memory)

  abbrev pub deliver_after : State R N
  deliver_after = cond (sized s) (delivered_by (waiting s.wire_ring s.wire)) s

  abbrev pub received_from : Result Record ReadFault → Result Outcome CallFault
  received_from (Ok x) = Ok (outcome (notice_in x))
  received_from (Err e) = Err (fault.Record e)

  abbrev pub received_by : Result Record ReadFault → State R N
  received_by (Ok x) = heeding (notice_in x) s.wire_ring
  received_by (Err e) = s

  abbrev pub receive_answer : List ℕ → Result Outcome CallFault
  receive_answer bytes = cond (sized s) (received_from (decoded bytes)) (Err fault.Memory)

  abbrev pub receive_after : List ℕ → State R N
  receive_after bytes = cond (sized s) (received_by (decoded bytes)) s
