-- While one slot serves a flow, the flow's frames are charged no more than full credit and what the slot earned.
use Rattle.std.proofs.lemmas.Grind.{common_steps}
use Rattle.std.proofs.Common.{◌≡◌, ℕ, ◌+◌, ◌<◌, ◌≤◌, Bool, true, false, cond, eqb, leb, List, [], ◌∷◌, length, get_or, Some, None, Ok, Err, sum_by, Option, Result, sym, refl, ap, subst, arith}
use Rattle.std.proofs.lemmas.List.{get_or-map}
use Rattle.std.proofs.lemmas.List.Sums.{sum_by-cons}
use Rattle.std.proofs.lemmas.Bool.{cond_both, eqb-true}
use Rattle.std.specs.List.{AllByRecursion}
use Rattle.record.specs.Decoded.{decoded}
use Rattle.record.specs.declared.Record.{Record}
use Rattle.record.specs.declared.faults.ReadFault.{ReadFault}
use Rattle.limiters.proofs.Keeping.{waiting}
use Rattle.limiters.specs.Act.{may_pass}
use Rattle.limiters.specs.Bounds.{credit_of, earnings}
use Rattle.limiters.specs.Pass.{passes, at_slot}
use Rattle.limiters.specs.Place.{sent_by}
use Rattle.limiters.specs.Step.{charge, full_credit}
use Rattle.limiters.specs.Table.{fits, serving, first_free}
use Rattle.limiters.specs.Wait.{micros}
use Rattle.limiters.specs.declared.limiter.Identity.{Identity}
use Rattle.limiters.specs.declared.limiter.Limiter.{Limiter}
use Rattle.limiters.specs.declared.limiter.Limiter.TheVariants.{Free}
use Rattle.tally.specs.declared.fault.CallFault.{CallFault}
use Rattle.tally.specs.declared.notice.Notice.{Notice}
use Rattle.tally.specs.Counts.{charged_at, earned_at}
use Rattle.tally.specs.Offering.{unless, moved_unless, posted, offer_refused, offer_showing, wire_room, offer_moved}
use Rattle.tally.specs.Promises.{Serves}
use Rattle.tally.specs.Runs.{Moment, Run}
use Rattle.tally.specs.Sound.{Sound}
use Rattle.tally.specs.Steps.{Asked, offer, leave, deliver, receive, wait, notice_in, heeding, told_offer, told_notice, told_wait, delivered_from, delivered_after, received_from, received_after, waited, longest_wait}
use Rattle.tally.specs.Tally.{Constants, Tally}
use Rattle.tally.proofs.Credits.{notice_kept, frame_less, frame_pays}
use Rattle.tally.proofs.Finding.{serving_found}
use Rattle.tally.proofs.Accepting.{admitted}
use Rattle.tally.proofs.Walking.{moment}

abbrev identity : ℕ → Identity
identity n = record { flow = n }

-- The credit of a slot.
abbrev pub credit_at : ℕ → Tally → ℕ
credit_at i t = credit_of (get_or t.slots i Free)

-- One moment's credit, where the slot serves the flow before and after.
abbrev pub Paid : Constants → Identity → ℕ → Moment → Type 0
Paid K who i m = Serves who i m → credit_at i m.after + charged_at who m ≤ credit_at i m.before + earned_at K i m

pub slot_full : (K : Constants) (t : Tally) (i : ℕ) → Sound K t → i < 64 → credit_at i t ≤ full_credit
slot_full K t i sound inside = grind (arith, common_steps)

module _ (K : Constants) (t : Tally) (who : Identity) (i : ℕ) (sound : Sound K t) (inside : i < 64) where
  in_list : i < length t.slots
  in_list = omega (arith, sound.long)

  -- a frame of the flow
  own_frame : (other : Identity) (n : ℕ) → who ≡ other → fits (Some who) (get_or t.slots i Free) ≡ true → passes K.settings.figures n other t.slots ≡ true
      → fits (Some who) (get_or (sent_by K.rule K.settings.figures n t.slots (serving other t.slots)) i Free) ≡ true
      → credit_of (get_or (sent_by K.rule K.settings.figures n t.slots (serving other t.slots)) i Free) + charge n ≤ credit_at i t
  own_frame other n same serves pass after =
      let found = serving_found other i t.slots sound.long sound.single inside (subst (λ w. fits (Some w) (get_or t.slots i Free) ≡ true) same serves) in
      let moved : Option ℕ → Limiter = λ o. get_or (sent_by K.rule K.settings.figures n t.slots o) i Free in
      subst (λ o. credit_of (moved o) + charge n ≤ credit_at i t) (sym found)
      (frame_pays K.rule K.settings.figures who n i t.slots in_list (sound.within i inside)
      (subst (λ o. may_pass K.settings.figures n (at_slot t.slots o) ≡ true) found pass)
      (subst (λ o. fits (Some who) (moved o) ≡ true) found after))

  offered : (other : Identity) (n : ℕ) (sampled : Bool) (r : Option CallFault) → r ≡ offer_refused K t other n
      → Paid K who i (record { before = t; asked = offer other n; answer = told_offer (unless r (posted (wire_room K t other n sampled) (offer_showing K t other n sampled))); after = moved_unless r t (offer_moved K t other n sampled) })
  offered other n sampled None is serves =
      let after : ℕ = credit_of (get_or (sent_by K.rule K.settings.figures n t.slots (serving other t.slots)) i Free) in
      let pass = (admitted K t other n (sym is)).passed in
      let less = frame_less K.rule K.settings.figures n i t.slots (serving other t.slots) in_list in
      let pays : after + cond (eqb other.flow who.flow) (charge n) 0 ≤ credit_at i t =
      cond_both (eqb other.flow who.flow) (charge n) 0 (λ c. after + c ≤ credit_at i t)
      (λ e. own_frame other n (ap (λ (k : ℕ). identity k) (sym (eqb-true other.flow who.flow e))) serves.0 pass serves.1)
      (λ _. omega arith) in
      omega arith
  offered other n sampled (Some e) is serves = omega arith

  -- a notice, whatever it is answered
  heeded_credit : (n : Notice) (ns : List Notice) → fits (Some who) (get_or t.slots i Free) ≡ true → credit_at i (heeding K t n ns) ≡ credit_at i t
  heeded_credit n ns serves =
      cond_both (eqb n.value 0) t.slots _ (λ ls. credit_of (get_or ls i Free) ≡ credit_at i t) (λ _. refl)
      (λ _. notice_kept K.rule K.settings.figures who n.to n.value t.cursor i t.slots (serving n.to t.slots) (first_free t.cursor t.slots) in_list serves)

  delivered : (ns : List Notice) → Paid K who i (record { before = t; asked = deliver; answer = told_notice (delivered_from K t ns); after = delivered_after K t ns })
  delivered [] serves = omega arith
  delivered (n ∷ ns) serves = let same = heeded_credit n ns serves.0 in omega arith

  received : (bytes : List ℕ) (r : Result Record ReadFault) → Paid K who i (record { before = t; asked = receive bytes; answer = told_notice (received_from K t r); after = received_after K t r })
  received bytes (Ok x) serves = let same = heeded_credit (notice_in x) t.notices serves.0 in omega arith
  received bytes (Err e) serves = omega arith

  -- a wait adds what is earned
  waits : (n count : ℕ) (e : CallFault) (b : Bool) → Paid K who i (record { before = t; asked = wait n; answer = told_wait (cond b (Ok count) (Err e)); after = cond b (waited K t n) t })
  waits n count e true serves =
      subst (λ l. credit_of l + 0 ≤ credit_at i t + earnings K.rule K.settings.figures n (get_or t.slots i Free)) (sym (get_or-map (micros K.rule K.settings.figures n) t.slots i Free Free in_list))
      (omega (arith, (waiting K.rule K.lawful K.settings.figures K.settings.period_in n).pays (get_or t.slots i Free)))
  waits n count e false serves = omega arith

  pub paid : (a : Asked) (sampled : Bool) → Paid K who i (moment K t a sampled)
  paid (offer other n) sampled = offered other n sampled (offer_refused K t other n) refl
  paid leave sampled = λ _. omega arith
  paid deliver sampled = delivered t.notices
  paid (receive bytes) sampled = received bytes (decoded bytes)
  paid (wait n) sampled = waits n _ _ (leb n longest_wait)

-- over a run
pub run_paid : (K : Constants) (who : Identity) (i : ℕ) (ms : List Moment) (t u : Tally) → AllByRecursion (Paid K who i) ms → AllByRecursion (Serves who i) ms → Run K t ms u
    → credit_at i u + sum_by (charged_at who) ms ≤ credit_at i t + sum_by (earned_at K i) ms
run_paid K who i [] t u paid serves run = let same = ap (credit_at i) run in omega arith
run_paid K who i (m ∷ ms) t u paid serves run =
    let from = ap (credit_at i) run.0 in
    let here = paid.0 serves.0 in
    let rest = run_paid K who i ms m.after u paid.1 serves.1 run.2 in
    omega (arith, sum_by-cons (charged_at who) m ms, sum_by-cons (earned_at K i) m ms)
