-- Rates are in bounds, and an applied notice lowers its flow's rate.
use Rattle.std.proofs.lemmas.Grind.{common_steps}
use Rattle.std.proofs.Common.{◌≡◌, ℕ, ◌<◌, ◌≤◌, Bool, true, false, cond, eqb, List, [], ◌∷◌, get_or, Some, Ok, Err, Option, Result, refl, arith}
use Rattle.std.proofs.lemmas.Bool.{eqb-false}
use Rattle.std.specs.List.{AllByRecursion}
use Rattle.record.specs.Decoded.{decoded}
use Rattle.record.specs.declared.Record.{Record}
use Rattle.record.specs.declared.faults.ReadFault.{ReadFault}
use Rattle.rates.specs.Rule.{Falls}
use Rattle.limiters.specs.Pass.{limiter_of}
use Rattle.limiters.specs.Place.{slots_after, placed}
use Rattle.limiters.specs.Table.{serving, first_free}
use Rattle.limiters.specs.declared.limiter.Limiter.{Limiter}
use Rattle.limiters.specs.declared.limiter.Limiter.TheVariants.{Free}
use Rattle.tally.proofs.Hearing.{lowered}
use Rattle.tally.proofs.Severities.{value_low}
use Rattle.tally.proofs.Tables.{kept_of, kept_heard}
use Rattle.tally.specs.declared.call.Answer.TheVariants.{Heard}
use Rattle.tally.specs.declared.call.Outcome.TheVariants.{Applied, Ignored}
use Rattle.tally.specs.declared.notice.Notice.{Notice}
use Rattle.tally.specs.Heeding.{outcome_at}
use Rattle.tally.specs.Promises.{InRates, rate_in, flow_rate, oldest, in_record, Lowers}
use Rattle.tally.specs.Sound.{NoticeKept, Sound}
use Rattle.tally.specs.Steps.{Asked, offer, leave, deliver, receive, wait, notice_in, heeding, outcome, delivered_from, delivered_after, received_from, received_after, told_notice, answer_to, tally_after}
use Rattle.tally.specs.Tally.{Constants, Tally}

module _ (K : Constants) where
  pub rates_of_sound : (t : Tally) → Sound K t → (i : ℕ) → i < 64 → InRates K (get_or t.slots i Free)
  rates_of_sound t s i inside = grind (arith, common_steps)

  -- a notice that arrives at a sound tally
  module _ (t : Tally) (s : Sound K t) (n : Notice) (few : n.value ≤ 63) (slot now' : ℕ) where
    abbrev heard_slots : List Limiter
    heard_slots = slots_after K.rule K.settings.figures n.to n.value t.cursor t.slots

    abbrev Lower : List Limiter → Type 0
    Lower after = (rate_in K (limiter_of n.to after) ≡ now') × Falls K.rule.floor (flow_rate K n.to t) now'

    by_value : (b : Bool) → eqb n.value 0 ≡ b → cond b Ignored (outcome_at n.to heard_slots (placed n.to t.cursor t.slots)) ≡ Applied slot now' → Lower (cond b t.slots heard_slots)
    by_value true e is = cc
    by_value false e is =
        let some : 1 ≤ n.value = omega (arith, eqb-false n.value 0 e) in
        let k = kept_of K t s in
        lowered K n.to n.value some few t.slots t.cursor slot now' k s.within (serving n.to t.slots) (first_free t.cursor t.slots) refl refl (kept_heard K n.to n.value t.cursor t.slots few k) is

    heeding_lowers : (rest : List Notice) → outcome K t n ≡ Applied slot now' → (flow_rate K n.to (heeding K t n rest) ≡ now') × Falls K.rule.floor (flow_rate K n.to t) now'
    heeding_lowers rest is = by_value (eqb n.value 0) refl is

  -- what a call about a notice shows
  abbrev Shows : Tally → ℕ → Option Notice → Tally → Type 0
  Shows t now' o after = (n : Notice) × (o ≡ Some n) × (flow_rate K n.to after ≡ now') × Falls K.rule.floor (flow_rate K n.to t) now'

  module _ (t : Tally) (s : Sound K t) (slot now' : ℕ) where
    delivered_lowers : (ns : List Notice) → AllByRecursion NoticeKept ns → told_notice (delivered_from K t ns) ≡ Ok (Heard (Applied slot now')) → Shows t now' (oldest ns) (delivered_after K t ns)
    delivered_lowers [] all is = cc
    delivered_lowers (n ∷ ns) all is =
        let h = heeding_lowers t s n all.0.value_low slot now' ns (cc) in
        (n, refl, h.0, h.1)

    received_lowers : (bytes : List ℕ) (r : Result Record ReadFault) → decoded bytes ≡ r → told_notice (received_from K t r) ≡ Ok (Heard (Applied slot now')) → Shows t now' (in_record r) (received_after K t r)
    received_lowers bytes (Ok x) e is =
        let h = heeding_lowers t s (notice_in x) (value_low bytes x e) slot now' t.notices (cc) in
        (notice_in x, refl, h.0, h.1)
    received_lowers bytes (Err x) e is = cc

pub lowers_step : (K : Constants) (t : Tally) (a : Asked) (sampled : Bool) → Sound K t → Lowers K (record { before = t; asked = a; answer = answer_to K t a sampled; after = tally_after K t a sampled })
lowers_step K t (offer who n) sampled s slot now' is = grind (arith, common_steps)
lowers_step K t leave sampled s slot now' is = grind (arith, common_steps)
lowers_step K t deliver sampled s slot now' is = delivered_lowers K t s slot now' t.notices s.notices_kept is
lowers_step K t (receive bytes) sampled s slot now' is = received_lowers K t s slot now' bytes (decoded bytes) refl is
lowers_step K t (wait n) sampled s slot now' is = grind (arith, common_steps)
