-- The bytes counted since the last sample are those that the tally holds.
use Rattle.std.proofs.lemmas.Grind.{common_steps}
use Rattle.std.proofs.Common.{◌≡◌, ℕ, Bool, List, [], ◌∷◌, Option, Result, sym, refl, ap, ◌∙◌, arith}
use Rattle.record.specs.Decoded.{decoded}
use Rattle.record.specs.declared.Record.{Record}
use Rattle.record.specs.declared.faults.ReadFault.{ReadFault}
use Rattle.limiters.specs.declared.limiter.Identity.{Identity}
use Rattle.tally.specs.declared.fault.CallFault.{CallFault}
use Rattle.tally.specs.declared.notice.Notice.{Notice}
use Rattle.tally.specs.Counts.{since_by, bytes_since}
use Rattle.tally.specs.Offering.{unless, moved_unless, posted, offer_refused, offer_showing, wire_room, offer_moved}
use Rattle.tally.specs.Runs.{Moment, Run}
use Rattle.tally.specs.Steps.{Asked, offer, leave, deliver, receive, wait, told_offer, delivered_after, received_after}
use Rattle.tally.specs.Tally.{Constants, Tally}
use Rattle.tally.proofs.Walking.{moment, at_step}

-- One moment's count.
abbrev pub Measured : Moment → Type 0
Measured m = since_by m.before.since m.asked m.answer ≡ m.after.since

offered : (K : Constants) (t : Tally) (who : Identity) (n : ℕ) (sampled : Bool) (r : Option CallFault)
    → since_by t.since (offer who n) (told_offer (unless r (posted (wire_room K t who n sampled) (offer_showing K t who n sampled)))) ≡ (moved_unless r t (offer_moved K t who n sampled)).since
offered K t who n sampled r = grind (arith, common_steps)

delivered : (K : Constants) (t : Tally) (ns : List Notice) → t.since ≡ (delivered_after K t ns).since
delivered K t ns = grind (arith, common_steps)

received : (K : Constants) (t : Tally) (r : Result Record ReadFault) → t.since ≡ (received_after K t r).since
received K t r = grind (arith, common_steps)

pub measured : (K : Constants) (t : Tally) (a : Asked) (sampled : Bool) → Measured (moment K t a sampled)
measured K t (offer who n) sampled = offered K t who n sampled (offer_refused K t who n)
measured K t leave sampled = refl
measured K t deliver sampled = delivered K t t.notices
measured K t (receive bytes) sampled = received K t (decoded bytes)
measured K t (wait n) sampled = grind (arith, common_steps)

-- over a run
pub run_since : (K : Constants) (ms : List Moment) (t u : Tally) → Run K t ms u → bytes_since t.since ms ≡ u.since
run_since K [] t u run = ap (λ (x : Tally). x.since) run
run_since K (m ∷ ms) t u run =
    let here = at_step K Measured m run.1 (measured K m.before m.asked run.1.sampled) in
    ap (λ (x : Tally). bytes_since (since_by x.since m.asked m.answer) ms) (sym run.0)
    ∙ ap (λ n. bytes_since n ms) here
    ∙ run_since K ms m.after u run.2
