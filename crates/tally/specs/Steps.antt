-- What each call answers from a tally, and the tally after it. A refused call leaves it.
use Rattle.std.specs.Prelude.{ℕ, Bool, cond, List, [], ◌∷◌, map, Ok, Err, sum_by, Result, nat_le}
use Rattle.record.specs.Decoded.{decoded}
use Rattle.record.specs.declared.Record.{Record}
use Rattle.record.specs.declared.faults.ReadFault.{ReadFault}
use Rattle.limiters.specs.Wait.{micros, expiries}
use Rattle.limiters.specs.declared.limiter.Identity.{Identity}
use Rattle.tally.specs.declared.call.Answer.{Answer}
use Rattle.tally.specs.declared.call.Answer.TheVariants as answer
use Rattle.tally.specs.declared.call.Offered.{Offered}
use Rattle.tally.specs.declared.call.Outcome.{Outcome}
use Rattle.tally.specs.declared.fault.CallFault.{CallFault}
use Rattle.tally.specs.declared.fault.CallFault.TheVariants as fault
use Rattle.tally.specs.declared.frame.Frame.{Frame}
use Rattle.tally.specs.declared.notice.Notice.{Notice}
use Rattle.tally.specs.Heeding.{heeded, slots_heeding, cursor_heeding}
use Rattle.tally.specs.Offering.{offer_answer, offer_after}
use Rattle.tally.specs.Tally.{Constants, Tally}

-- The five calls.
pub data Asked : Type 0 where
  offer : Identity → ℕ → Asked
  leave : Asked
  deliver : Asked
  receive : List ℕ → Asked
  wait : ℕ → Asked

-- The oldest frame leaves, or there is none.
abbrev pub left_from : List Frame → Result Frame CallFault
left_from [] = Err fault.NoFrame
left_from (f ∷ fs) = Ok f

abbrev pub without_first : {X : Type 0} → List X → List X
without_first [] = []
without_first (x ∷ xs) = xs

abbrev pub leave_after : Tally → Tally
leave_after t = record { slots = t.slots; cursor = t.cursor; frames = without_first t.frames; notices = t.notices; old = t.old; since = t.since }

-- The notice that a record brings.
abbrev pub notice_in : Record → Notice
notice_in x = record { to = record { flow = x.flow }; value = x.value }

-- The longest wait.
abbrev pub longest_wait : ℕ
longest_wait = 1000000

module _ (K : Constants) (t : Tally) where
  -- The tally after a notice arrived and these are left.
  abbrev pub heeding : Notice → List Notice → Tally
  heeding n rest = record {
    slots = slots_heeding K.rule K.settings.figures t.cursor t.slots n;
    cursor = cursor_heeding K.rule K.settings.figures t.cursor t.slots n;
    frames = t.frames;
    notices = rest;
    old = t.old;
    since = t.since;
  }

  abbrev pub outcome : Notice → Outcome
  outcome n = heeded K.rule K.settings.figures t.cursor t.slots n

  -- The oldest notice is taken off and arrives.
  abbrev pub delivered_from : List Notice → Result Outcome CallFault
  delivered_from [] = Err fault.NoNotice
  delivered_from (n ∷ ns) = Ok (outcome n)

  abbrev pub delivered_after : List Notice → Tally
  delivered_after [] = t
  delivered_after (n ∷ ns) = heeding n ns

  -- A record's notice arrives; nothing is taken off.
  abbrev pub received_from : Result Record ReadFault → Result Outcome CallFault
  received_from (Ok x) = Ok (outcome (notice_in x))
  received_from (Err e) = Err (fault.Record e)

  abbrev pub received_after : Result Record ReadFault → Tally
  received_after (Ok x) = heeding (notice_in x) t.notices
  received_after (Err e) = t

  -- Every limiter in service waits so many microseconds.
  abbrev pub wait_answer : ℕ → Result ℕ CallFault
  wait_answer n = cond (nat_le n longest_wait) (Ok (sum_by (expiries K.rule K.settings.figures n) t.slots)) (Err fault.Wait)

  abbrev pub waited : ℕ → Tally
  waited n = record {
    slots = map (micros K.rule K.settings.figures n) t.slots;
    cursor = t.cursor;
    frames = t.frames;
    notices = t.notices;
    old = t.old;
    since = t.since;
  }

  abbrev pub wait_after : ℕ → Tally
  wait_after n = cond (nat_le n longest_wait) (waited n) t

-- An answer of one call as the answer of any: a refusal stays what it is.
abbrev pub told : {X : Type 0} → (X → Answer) → Result X CallFault → Result Answer CallFault
told kind (Ok x) = Ok (kind x)
told kind (Err e) = Err e

abbrev pub told_offer : Result Offered CallFault → Result Answer CallFault
told_offer r = told answer.Accepted r

abbrev pub told_leave : Result Frame CallFault → Result Answer CallFault
told_leave r = told answer.Left r

abbrev pub told_notice : Result Outcome CallFault → Result Answer CallFault
told_notice r = told answer.Heard r

abbrev pub told_wait : Result ℕ CallFault → Result Answer CallFault
told_wait r = told answer.Waited r

-- Whichever call it is: only an offer asks whether the notifier samples.
abbrev pub answer_to : Constants → Tally → Asked → Bool → Result Answer CallFault
answer_to K t (offer who n) sampled = told_offer (offer_answer K t who n sampled)
answer_to K t leave sampled = told_leave (left_from t.frames)
answer_to K t deliver sampled = told_notice (delivered_from K t t.notices)
answer_to K t (receive bytes) sampled = told_notice (received_from K t (decoded bytes))
answer_to K t (wait n) sampled = told_wait (wait_answer K t n)

abbrev pub tally_after : Constants → Tally → Asked → Bool → Tally
tally_after K t (offer who n) sampled = offer_after K t who n sampled
tally_after K t leave sampled = leave_after t
tally_after K t deliver sampled = delivered_after K t t.notices
tally_after K t (receive bytes) sampled = received_after K t (decoded bytes)
tally_after K t (wait n) sampled = wait_after K t n
