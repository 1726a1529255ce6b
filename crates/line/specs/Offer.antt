-- An offer, from any state: what it answers, and what it leaves.
use Rattle.std.specs.Prelude.{ℕ, ◌+◌, min, Bool, cond, List, Some, Option, Result, nat_lt, slice_set}
use Rattle.rates.specs.declared.rate_rule.RateRule.{Ghosts as RuleGhosts}
use Rattle.notifiers.specs.Meter.{answered}
use Rattle.notifiers.specs.declared.notifier.Notifier.{Ghosts as NotifierGhosts}
use Rattle.notifiers.specs.declared.shown.Shown.{Shown}
use Rattle.notifiers.specs.declared.shown.Showing.{Showing}
use Rattle.notifiers.specs.declared.shown.Showing.TheVariants.{Unsampled, Quiet, Notice as Noticed}
use Rattle.ring.specs.Standing.{Standing, tail_place, pushed}
use Rattle.limiters.specs.Pass.{mark_of}
use Rattle.limiters.specs.Place.{sent_by}
use Rattle.limiters.specs.Table.{serving}
use Rattle.limiters.specs.declared.limiter.Identity.{Identity}
use Rattle.tally.specs.Offering.{unless, moved_unless, offer_refusal, noticing, posted}
use Rattle.tally.specs.Tally.{pages}
use Rattle.tally.specs.declared.call.Offered.{Offered}
use Rattle.tally.specs.declared.fault.CallFault.{CallFault}
use Rattle.tally.specs.declared.fault.CallFault.TheVariants.{Memory}
use Rattle.tally.specs.declared.frame.Frame.{Frame}
use Rattle.tally.specs.declared.notice.Notice.{Notice}
use Rattle.line.specs.State.{State, sized}

-- The pages that wait with a frame more: they stop at 2,048.
abbrev pub pages_more : ℕ → ℕ → ℕ
pages_more waiting n = min (waiting + pages n) 2048

-- Where the wire stands, and what it holds, once a notice that was made is put on it; without room it is gone.
abbrev pub ring_posted : Bool → Showing → Standing → Standing
ring_posted room Unsampled ring = ring
ring_posted room Quiet ring = ring
ring_posted room (Noticed v) ring = cond room (pushed ring) ring

abbrev pub memory_posted : Bool → Identity → Showing → Standing → List Notice → List Notice
memory_posted room who Unsampled ring wire = wire
memory_posted room who Quiet ring wire = wire
memory_posted room who (Noticed v) ring wire = cond room (slice_set wire (tail_place ring) (noticing who v)) wire

-- Room for one more.
abbrev pub has_room : Standing → Bool
has_room ring = nat_lt ring.count ring.size

module _ {R N : Type 0} (rr : RuleGhosts R) (nn : NotifierGhosts N) (s : State R N) (who : Identity) (n : ℕ) where
  -- A memory of another size is refused before anything else.
  abbrev pub refusal : Option CallFault
  refusal = cond (sized s) (offer_refusal s.regime.settings.figures (has_room s.frame_ring) s.slots who n) (Some Memory)

  abbrev pub new_frame : Frame
  new_frame = record { from = who; length = n; mark = mark_of (rr.meaning s.regime.rule) s.regime.settings.figures n who s.slots }

  -- The frame as the notifier is shown it, with the pages that wait then; and what it answers, by its own choice to sample.
  abbrev pub shown : Shown
  shown = record { pages = pages_more s.pages n; length = n; mark = new_frame.mark }

  abbrev pub sampling : Bool
  sampling = nn.samples s.notifier shown

  abbrev pub showing : Showing
  showing = answered (nn.meter s.notifier) shown sampling

  abbrev pub answer : Result Offered CallFault
  answer = unless refusal (posted (has_room s.wire_ring) showing)

  abbrev pub accepted : State R N
  accepted = record {
    regime = s.regime;
    notifier = nn.next s.notifier shown;
    slots = sent_by (rr.meaning s.regime.rule) s.regime.settings.figures n s.slots (serving who s.slots);
    cursor = s.cursor;
    frame_ring = pushed s.frame_ring;
    frames = slice_set s.frames (tail_place s.frame_ring) new_frame;
    wire_ring = ring_posted (has_room s.wire_ring) showing s.wire_ring;
    wire = memory_posted (has_room s.wire_ring) who showing s.wire_ring s.wire;
    pages = pages_more s.pages n;
  }

  abbrev pub after : State R N
  after = moved_unless refusal s accepted
