-- A notice is unplaced only where every limiter is in service.
use Rattle.std.proofs.lemmas.Grind.{common_steps}
use Rattle.std.proofs.Common.{◌≡◌, ℕ, ◌<◌, Bool, true, false, cond, eqb, List, [], ◌∷◌, length, get_or, Some, None, Ok, Err, Option, Result, refl, arith}
use Rattle.record.specs.Decoded.{decoded}
use Rattle.record.specs.declared.Record.{Record}
use Rattle.record.specs.declared.faults.ReadFault.{ReadFault}
use Rattle.limiters.specs.Place.{placed, slots_after}
use Rattle.limiters.specs.Table.{fits}
use Rattle.limiters.specs.declared.limiter.Identity.{Identity}
use Rattle.limiters.specs.declared.limiter.Limiter.{Limiter}
use Rattle.limiters.specs.declared.limiter.Limiter.TheVariants.{Free}
use Rattle.tally.specs.declared.call.Answer.TheVariants.{Heard}
use Rattle.tally.specs.declared.call.Outcome.TheVariants.{Unplaced, Ignored}
use Rattle.tally.specs.declared.notice.Notice.{Notice}
use Rattle.tally.specs.Heeding.{outcome_at}
use Rattle.tally.specs.Promises.{Crowded, oldest, in_record}
use Rattle.tally.specs.Sound.{Sound}
use Rattle.tally.specs.Steps.{Asked, offer, leave, deliver, receive, wait, notice_in, outcome, delivered_from, received_from, told_notice}
use Rattle.tally.specs.Tally.{Constants, Tally}
use Rattle.tally.proofs.Finding.{none_free}
use Rattle.tally.proofs.Walking.{moment}

module _ (K : Constants) (t : Tally) (long : length t.slots ≡ 64) (who : Identity) where
  abbrev Full : Type 0
  Full = (i : ℕ) → i < 64 → fits None (get_or t.slots i Free) ≡ false

  by_place : (n : Notice) (o : Option ℕ) (after : List Limiter) → placed n.to t.cursor t.slots ≡ o → outcome_at n.to after o ≡ Unplaced who → (n.to ≡ who) × Full
  by_place n (Some i) after is e = cc
  by_place n None after is e = (cc, none_free n.to t.cursor t.slots long is)

  by_value : (n : Notice) (b : Bool) → cond b Ignored (outcome_at n.to (slots_after K.rule K.settings.figures n.to n.value t.cursor t.slots) (placed n.to t.cursor t.slots)) ≡ Unplaced who
      → (n.to ≡ who) × Full
  by_value n true e = cc
  by_value n false e = by_place n (placed n.to t.cursor t.slots) _ refl e

  unplaced : (n : Notice) → outcome K t n ≡ Unplaced who → (n.to ≡ who) × Full
  unplaced n e = by_value n (eqb n.value 0) e

  abbrev About : Option Notice → Type 0
  About o = (n : Notice) × (o ≡ Some n) × (n.to ≡ who) × Full

  delivered : (ns : List Notice) → told_notice (delivered_from K t ns) ≡ Ok (Heard (Unplaced who)) → About (oldest ns)
  delivered [] is = cc
  delivered (n ∷ ns) is = let h = unplaced n (cc) in (n, refl, h.0, h.1)

  received : (r : Result Record ReadFault) → told_notice (received_from K t r) ≡ Ok (Heard (Unplaced who)) → About (in_record r)
  received (Ok x) is = let h = unplaced (notice_in x) (cc) in (notice_in x, refl, h.0, h.1)
  received (Err x) is = cc

pub crowded_step : (K : Constants) (t : Tally) (a : Asked) (sampled : Bool) → Sound K t → Crowded (moment K t a sampled)
crowded_step K t (offer other n) sampled s who is = grind (arith, common_steps)
crowded_step K t leave sampled s who is = grind (arith, common_steps)
crowded_step K t deliver sampled s who is = delivered K t s.long who t.notices is
crowded_step K t (receive bytes) sampled s who is = received K t s.long who (decoded bytes) is
crowded_step K t (wait n) sampled s who is = grind (arith, common_steps)
