-- A sample whose severity is above its frame's mark makes a notice of it.
use Rattle.std.proofs.lemmas.Grind.{common_steps}
use Rattle.std.proofs.Common.{ℕ, Bool, Option, arith}
use Rattle.notifiers.specs.declared.shown.Showing.TheVariants as showing
use Rattle.limiters.specs.declared.limiter.Identity.{Identity}
use Rattle.tally.specs.declared.call.Offered.{Offered}
use Rattle.tally.specs.declared.fault.CallFault.{CallFault}
use Rattle.tally.specs.Offering.{unless, moved_unless, posted, offer_refused, offer_showing, wire_room, offer_moved}
use Rattle.tally.specs.Promises.{Makes, Told}
use Rattle.tally.specs.Steps.{Asked, offer, leave, deliver, receive, wait, told_offer}
use Rattle.tally.specs.Tally.{Constants, Tally}
use Rattle.tally.proofs.Walking.{moment}

made : (room : Bool) (v : ℕ) → Makes v (posted room (showing.Notice v))
made room v = grind (arith, common_steps)

module _ (K : Constants) (t : Tally) (who : Identity) (n : ℕ) (sampled : Bool) where
  abbrev answered : Offered
  answered = posted (wire_room K t who n sampled) (offer_showing K t who n sampled)

  told_offered : (r : Option CallFault) → Told K (record { before = t; asked = offer who n; answer = told_offer (unless r answered); after = moved_unless r t (offer_moved K t who n sampled) })
  told_offered r o f is frames s above = grind (arith, common_steps)

pub told_step : (K : Constants) (t : Tally) (a : Asked) (sampled : Bool) → Told K (moment K t a sampled)
told_step K t (offer who n) sampled = told_offered K t who n sampled (offer_refused K t who n)
told_step K t leave sampled = grind (arith, common_steps)
told_step K t deliver sampled = grind (arith, common_steps)
told_step K t (receive bytes) sampled = grind (arith, common_steps)
told_step K t (wait n) sampled = grind (arith, common_steps)
