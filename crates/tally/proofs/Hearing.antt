-- A slot that hears a notice lowers its flow's rate.
use Rattle.std.proofs.lemmas.Grind.{common_steps}
use Rattle.std.proofs.Common.{◌≡◌, ℕ, ◌<◌, ◌≤◌, true, List, length, get_or, set, Some, None, Option, sym, refl, ap, ◌∙◌, subst, arith}
use Rattle.std.proofs.lemmas.List.{get_or-set_same, length-set}
use Rattle.std.proofs.lemmas.Bool.{eq-eqb}
use Rattle.settings.specs.declared.figures.Figures.{Figures}
use Rattle.rates.specs.Rule.{Falls}
use Rattle.limiters.proofs.Keeping.{fresh_within}
use Rattle.limiters.specs.Act.{heard, taken}
use Rattle.limiters.specs.Bounds.{Within, current_of}
use Rattle.limiters.specs.Pass.{at_slot, limiter_of}
use Rattle.limiters.specs.Place.{slots_by}
use Rattle.limiters.specs.Step.{fresh}
use Rattle.limiters.specs.Table.{fits, serving, first_free, or_else}
use Rattle.limiters.specs.declared.limiter.Identity.{Identity}
use Rattle.limiters.specs.declared.limiter.Limiter.{Limiter}
use Rattle.limiters.specs.declared.limiter.Limiter.TheVariants.{Free, InService}
use Rattle.tally.proofs.Finding.{serving_found, found_serving, found_free}
use Rattle.tally.proofs.Tables.{Kept}
use Rattle.tally.specs.declared.call.Outcome.TheVariants.{Applied}
use Rattle.tally.specs.Heeding.{outcome_at}
use Rattle.tally.specs.Promises.{rate_in}
use Rattle.tally.specs.Tally.{Constants}

module _ (K : Constants) where
  abbrev f : Figures
  f = K.settings.figures

  -- a limiter that heard a notice serves the same, at a lower rate
  record Lowered (who : Identity) (l x : Limiter) : Type 0 where
    serves : fits (Some who) x ≡ true
    rate : rate_in K x ≡ current_of x
    falls : Falls K.rule.floor (rate_in K l) (current_of x)

  hear_lowers : (who : Identity) (v : ℕ) (l : Limiter) → 1 ≤ v → v ≤ 63 → Within K.rule f l → fits (Some who) l ≡ true → Lowered who l (heard K.rule f v l)
  hear_lowers who v l some few h e = grind (arith, common_steps)

  -- a free limiter that is taken
  taken_fresh : (who : Identity) (l : Limiter) → fits None l ≡ true → taken f who l ≡ InService (fresh f who)
  taken_fresh who l e = grind (arith, common_steps)

  module _ (who : Identity) (v : ℕ) (some : 1 ≤ v) (few : v ≤ 63) where
    -- what is then answered of a slot that serves and hears
    module _ (ms : List Limiter) (i : ℕ) (long : length ms ≡ 64) (inside : i < 64) where
      abbrev y : Limiter
      y = get_or ms i Free

      abbrev after : List Limiter
      after = set ms i (heard K.rule f v y)

      settles : Kept K after → Within K.rule f y → fits (Some who) y ≡ true → (rate_in K (limiter_of who after) ≡ current_of (get_or after i Free)) × Falls K.rule.floor (rate_in K y) (current_of (get_or after i Free))
      settles k h e =
          let x = heard K.rule f v y in
          let low = hear_lowers who v y some few h e in
          let same : get_or after i Free ≡ x = get_or-set_same ms i x Free (omega arith) in
          let found : serving who after ≡ Some i = serving_found who i after k.long k.single inside (subst (λ l. fits (Some who) l ≡ true) (sym same) low.serves) in (
            ap (λ o. rate_in K (at_slot after o)) found ∙ ap (rate_in K) same ∙ low.rate ∙ ap current_of (sym same),
            subst (λ l. Falls K.rule.floor (rate_in K y) (current_of l)) (sym same) low.falls,
          )

    module _ (ls : List Limiter) (cursor slot now' : ℕ) (k : Kept K ls) (within : (i : ℕ) → i < 64 → Within K.rule f (get_or ls i Free)) where
      pub lowered : (o p : Option ℕ) → serving who ls ≡ o → first_free cursor ls ≡ p → Kept K (slots_by K.rule f who v cursor ls o p) → outcome_at who (slots_by K.rule f who v cursor ls o p) (or_else o p) ≡ Applied slot now'
          → (rate_in K (limiter_of who (slots_by K.rule f who v cursor ls o p)) ≡ now') × Falls K.rule.floor (rate_in K (at_slot ls o)) now'
      lowered (Some i) p is-o is-p kept is =
          let found = found_serving who i ls is-o in
          let now : current_of (get_or (after ls i k.long found.0) i Free) ≡ now' = cc in
          let r = settles ls i k.long found.0 kept (within i found.0) found.1 in
          (r.0 ∙ now, subst (Falls K.rule.floor (rate_in K (get_or ls i Free))) now r.1)
      lowered None (Some i) is-o is-p kept is =
          let found = found_free cursor i ls k.long is-p in
          let x = taken f who (get_or ls i Free) in
          let ms = set ls i x in
          let long : length ms ≡ 64 = length-set ls i x ∙ k.long in
          let fresh' : get_or ms i Free ≡ InService (fresh f who) = get_or-set_same ls i x Free (omega (arith, k.long, found.0)) ∙ taken_fresh who (get_or ls i Free) found.1 in
          let now : current_of (get_or (after ms i long found.0) i Free) ≡ now' = cc in
          let r = settles ms i long found.0 kept (subst (Within K.rule f) (sym fresh') (fresh_within K.rule K.lawful f K.settings.period_in K.settings.line_rate_in who)) (subst (λ l. fits (Some who) l ≡ true) (sym fresh') (eq-eqb who.flow who.flow refl)) in
          (r.0 ∙ now, subst (λ l. Falls K.rule.floor (rate_in K l) now') fresh' (subst (Falls K.rule.floor (rate_in K (get_or ms i Free))) now r.1))
      lowered None None is-o is-p kept is = cc
