-- An offer: why it is refused, and what an accepted frame does.
use Rattle.std.specs.Prelude.{ℕ, ◌+◌, Bool, cond, ◌&&◌, List, [], ◌∷◌, ◌++◌, length, Some, None, Ok, Err, Option, Result, nat_le, nat_lt}
use Rattle.settings.specs.declared.figures.Figures.{Figures}
use Rattle.notifiers.specs.Meter.{valued}
use Rattle.notifiers.specs.Severity.{severity}
use Rattle.notifiers.specs.declared.shown.Showing.{Showing}
use Rattle.notifiers.specs.declared.shown.Showing.TheVariants as showing
use Rattle.limiters.specs.Pass.{passes, mark_of}
use Rattle.limiters.specs.Place.{sent_by}
use Rattle.limiters.specs.Table.{serving}
use Rattle.limiters.specs.declared.limiter.Identity.{Identity}
use Rattle.limiters.specs.declared.limiter.Limiter.{Limiter}
use Rattle.tally.specs.declared.call.Offered.{Offered}
use Rattle.tally.specs.declared.call.Offered.TheVariants.{Unsampled, Quiet, Waiting, Overrun}
use Rattle.tally.specs.declared.fault.CallFault.{CallFault}
use Rattle.tally.specs.declared.fault.CallFault.TheVariants.{Length, Full, Pace}
use Rattle.tally.specs.declared.frame.Frame.{Frame}
use Rattle.tally.specs.declared.notice.Notice.{Notice}
use Rattle.tally.specs.Tally.{Constants, Tally, pages_waiting}

-- An answer, unless there is a refusal; and what is left then.
abbrev pub unless : {X : Type 0} → Option CallFault → X → Result X CallFault
unless None x = Ok x
unless (Some e) x = Err e

abbrev pub moved_unless : {X : Type 0} → Option CallFault → X → X → X
moved_unless None before after = after
moved_unless (Some e) before after = before

-- Frames have from 64 to 2,000 bytes.
abbrev pub lawful_length : ℕ → Bool
lawful_length n = nat_le 64 n && nat_le n 2000

-- Why an offer is refused, the first that fits: its length, no frame place free, or its limiter holds it back.
abbrev pub offer_refusal : Figures → Bool → List Limiter → Identity → ℕ → Option CallFault
offer_refusal f room ls who n = cond (lawful_length n) (cond room (cond (passes f n who ls) None (Some Pace)) (Some Full)) (Some Length)

abbrev pub noticing : Identity → ℕ → Notice
noticing who v = record { to = who; value = v }

-- What becomes of a notice that is made: it waits where the wire has room, and is overrun where it has none.
abbrev pub posted : Bool → Showing → Offered
posted room showing.Unsampled = Unsampled
posted room showing.Quiet = Quiet
posted room (showing.Notice v) = cond room (Waiting v) (Overrun v)

abbrev pub wire_posted : Bool → Identity → Showing → List Notice → List Notice
wire_posted room who showing.Unsampled ns = ns
wire_posted room who showing.Quiet ns = ns
wire_posted room who (showing.Notice v) ns = cond room (ns ++ (noticing who v ∷ [])) ns

module _ (K : Constants) (t : Tally) (who : Identity) (n : ℕ) where
  abbrev pub offer_refused : Option CallFault
  offer_refused = offer_refusal K.settings.figures (nat_lt (length t.frames) K.frame_places) t.slots who n

  -- The frame that joins the queue, with the mark that its limiter gives it once it is charged.
  abbrev pub offered_frame : Frame
  offered_frame = record { from = who; length = n; mark = mark_of K.rule K.settings.figures n who t.slots }

  abbrev pub frames_offered : List Frame
  frames_offered = t.frames ++ (offered_frame ∷ [])

  -- The severity at this frame: the pages that wait with it, and the old before.
  abbrev pub offer_severity : ℕ
  offer_severity = severity K.settings.figures.set_point K.settings.figures.weight (pages_waiting frames_offered) t.old

  module _ (sampled : Bool) where
    -- Whether to sample is the notifier's choice; all else follows.
    abbrev pub offer_showing : Showing
    offer_showing = cond sampled (valued offer_severity K.withholds offered_frame.mark) showing.Unsampled

    abbrev pub wire_room : Bool
    wire_room = nat_lt (length t.notices) K.wire_places

    abbrev pub offer_answer : Result Offered CallFault
    offer_answer = unless offer_refused (posted wire_room offer_showing)

    -- The frame is charged and joins the queue; its notice joins the wire; a sample sets old to the pages and since to 0.
    abbrev pub offer_moved : Tally
    offer_moved = record {
      slots = sent_by K.rule K.settings.figures n t.slots (serving who t.slots);
      cursor = t.cursor;
      frames = frames_offered;
      notices = wire_posted wire_room who offer_showing t.notices;
      old = cond sampled (pages_waiting frames_offered) t.old;
      since = cond sampled 0 (t.since + n);
    }

    abbrev pub offer_after : Tally
    offer_after = moved_unless offer_refused t offer_moved
