-- Every notice that is made is overrun, waits, or was taken off and applied or unplaced; they are taken off in the order made.
use Rattle.std.proofs.lemmas.Grind.{common_steps}
use Rattle.std.proofs.Common.{◌≡◌, ℕ, ◌+◌, Bool, List, [], ◌∷◌, ◌++◌, length, sum_by, Option, Result, sym, refl, ap, ◌∙◌, append_assoc, append-nil, arith}
use Rattle.std.proofs.lemmas.List.Sums.{sum_by-cons}
use Rattle.std.specs.List.{flat_map, AllByRecursion}
use Rattle.record.specs.Decoded.{decoded}
use Rattle.record.specs.declared.Record.{Record}
use Rattle.record.specs.declared.faults.ReadFault.{ReadFault}
use Rattle.limiters.specs.declared.limiter.Identity.{Identity}
use Rattle.limiters.specs.declared.limiter.Limiter.{Limiter}
use Rattle.tally.specs.declared.fault.CallFault.{CallFault}
use Rattle.tally.specs.declared.frame.Frame.{Frame}
use Rattle.tally.specs.declared.notice.Notice.{Notice}
use Rattle.tally.specs.Counts.{applied_by, unplaced_by, made_at, overrun_at, applied_at, unplaced_at, joins_at, takes_at}
use Rattle.tally.specs.Heeding.{outcome_at}
use Rattle.tally.specs.Offering.{unless, moved_unless, posted, offer_refused, offer_showing, wire_room, offer_moved}
use Rattle.tally.specs.Runs.{Moment, Run}
use Rattle.tally.specs.Sound.{Sound, NoticeKept}
use Rattle.tally.specs.Steps.{Asked, offer, leave, deliver, receive, wait, told_offer, told_leave, told_notice, told_wait, left_from, delivered_from, delivered_after, received_from, received_after, outcome}
use Rattle.tally.specs.Tally.{Constants, Tally}
use Rattle.tally.proofs.Walking.{moment}

-- One moment's account.
pub record Accounted (m : Moment) : Type 0 where
  pub counts : length m.before.notices + made_at m ≡ applied_at m + unplaced_at m + overrun_at m + length m.after.notices
  pub order : m.before.notices ++ joins_at m ≡ takes_at m ++ m.after.notices

offered : (K : Constants) (t : Tally) (who : Identity) (n : ℕ) (sampled : Bool) (r : Option CallFault)
    → Accounted (record { before = t; asked = offer who n; answer = told_offer (unless r (posted (wire_room K t who n sampled) (offer_showing K t who n sampled))); after = moved_unless r t (offer_moved K t who n sampled) })
offered K t who n sampled r = grind (arith, common_steps)

-- a notice with a value is applied or unplaced
settles : (who : Identity) (after : List Limiter) (o : Option ℕ) → applied_by (outcome_at who after o) + unplaced_by (outcome_at who after o) ≡ 1
settles who after o = grind (arith, common_steps)

settled : (K : Constants) (t : Tally) (n : Notice) → NoticeKept n → applied_by (outcome K t n) + unplaced_by (outcome K t n) ≡ 1
settled K t n kept = grind (arith, common_steps)

delivered : (K : Constants) (t : Tally) (ns : List Notice) → t.notices ≡ ns → AllByRecursion NoticeKept ns
    → Accounted (record { before = t; asked = deliver; answer = told_notice (delivered_from K t ns); after = delivered_after K t ns })
delivered K t ns is kept = grind (arith, common_steps)

-- no other call makes, takes off or overruns one
left : (t u : Tally) (r : Result Frame CallFault) → u.notices ≡ t.notices → Accounted (record { before = t; asked = leave; answer = told_leave r; after = u })
left t u r is = grind (arith, common_steps)

waited : (t u : Tally) (n : ℕ) (r : Result ℕ CallFault) → u.notices ≡ t.notices → Accounted (record { before = t; asked = wait n; answer = told_wait r; after = u })
waited t u n r is = grind (arith, common_steps)

received : (K : Constants) (t : Tally) (bytes : List ℕ) (r : Result Record ReadFault)
    → Accounted (record { before = t; asked = receive bytes; answer = told_notice (received_from K t r); after = received_after K t r })
received K t bytes r = grind (arith, common_steps)

pub accounted : (K : Constants) (t : Tally) (a : Asked) (sampled : Bool) → Sound K t → Accounted (moment K t a sampled)
accounted K t (offer who n) sampled sound = offered K t who n sampled (offer_refused K t who n)
accounted K t leave sampled sound = left t _ (left_from t.frames) refl
accounted K t deliver sampled sound = delivered K t t.notices refl sound.notices_kept
accounted K t (receive bytes) sampled sound = received K t bytes (decoded bytes)
accounted K t (wait n) sampled sound = grind (arith, common_steps)

-- over a run
pub run_counts : (K : Constants) (ms : List Moment) (t u : Tally) → AllByRecursion Accounted ms → Run K t ms u
    → length t.notices + sum_by made_at ms ≡ sum_by applied_at ms + sum_by unplaced_at ms + sum_by overrun_at ms + length u.notices
run_counts K [] t u each run = let e = ap (λ (x : Tally). length x.notices) run in omega arith
run_counts K (m ∷ ms) t u each run =
    let from = ap (λ (x : Tally). length x.notices) run.0 in
    let here = each.0.counts in
    let rest = run_counts K ms m.after u each.1 run.2 in
    omega (arith, sum_by-cons made_at m ms, sum_by-cons applied_at m ms, sum_by-cons unplaced_at m ms, sum_by-cons overrun_at m ms)

pub run_order : (K : Constants) (ms : List Moment) (t u : Tally) → AllByRecursion Accounted ms → Run K t ms u → t.notices ++ flat_map joins_at ms ≡ flat_map takes_at ms ++ u.notices
run_order K [] t u each run = append-nil t.notices ∙ ap (λ (x : Tally). x.notices) run
run_order K (m ∷ ms) t u each run =
    ap (λ (x : Tally). x.notices ++ (joins_at m ++ flat_map joins_at ms)) (sym run.0)
    ∙ sym (append_assoc m.before.notices (joins_at m) (flat_map joins_at ms))
    ∙ ap (λ l. l ++ flat_map joins_at ms) each.0.order
    ∙ append_assoc (takes_at m) m.after.notices (flat_map joins_at ms)
    ∙ ap (λ l. takes_at m ++ l) (run_order K ms m.after u each.1 run.2)
    ∙ sym (append_assoc (takes_at m) (flat_map takes_at ms) u.notices)
