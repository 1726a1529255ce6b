-- A silent flow climbs to the line rate.
use Rattle.std.proofs.Common.{◌≡◌, ℕ, zero, suc, ◌<◌, ◌≤◌, max, eqb, ◌⊎◌, List, [], ◌∷◌, ◌++◌, length, sym, refl, ap, ◌∙◌, subst, inl, inr, ⊎_elim, arith}
use Rattle.std.proofs.lemmas.Bool.{cond_both, cases_eq}
use Rattle.std.proofs.lemmas.Grind.{common_steps}
use Rattle.settings.specs.Ranges.{In}
use Rattle.settings.specs.declared.figures.Figures.{Figures}
use Rattle.settings.specs.declared.fault.SettingsFault.TheVariants.{LineRate, Period}
use Rattle.rates.specs.Rule.{Rule, Lawful}
use Rattle.rates.specs.Conditions.{raisable_parts}
use Rattle.limiters.specs.Bounds.{InBounds, Within}
use Rattle.limiters.specs.Step.{earned, expired, fresh, noticed}
use Rattle.limiters.specs.Wait.{micros, timer_raised}
use Rattle.limiters.proofs.Jumps.{jump_from}
use Rattle.limiters.proofs.Keeping.{waiting, noticed_within, fresh_within}
use Rattle.limiters.specs.declared.limiter.Limiter.{Limiter}
use Rattle.limiters.specs.declared.limiter.Limiter.TheVariants.{Free, InService}
use Rattle.limiters.specs.declared.limiter.Row.{Row}
use Rattle.silence.specs.declared.expiry.Expiry.{Expiry}
use Rattle.silence.specs.declared.expiry.Stand.{Stand}
use Rattle.silence.specs.Expiries.{bound, expiries, Climbs, last, ClimbsBack}
use Rattle.silence.specs.Stands.{shown, time_left_of, ServingWithin, strike_stand, next_stand}

module _ (rule : Rule) (f : Figures) where
  -- at the line rate there are no more expiries
  pub expiries_end : (n : ℕ) (s : Stand) → (shown s).rates.current ≡ f.line_rate → expiries rule f n s ≡ []
  unfolding expiries
  expiries_end zero s there = refl
  expiries_end (suc n) s there = grind (arith, common_steps)

  -- below it there is one more
  pub expiries_more : (n : ℕ) (s : Stand) → ((shown s).rates.current ≡ f.line_rate → ⊥) → expiries rule f (suc n) s ≡ shown (next_stand rule f s) ∷ expiries rule f n (next_stand rule f s)
  unfolding expiries
  expiries_more n s below = grind (arith, common_steps)

  pub expiries_none : (s : Stand) → expiries rule f 0 s ≡ []
  unfolding expiries
  expiries_none s = refl

  ends : (n : ℕ) (s : Stand) → ((last (shown s) (expiries rule f n s)).rates.current ≡ f.line_rate) ⊎ (length (expiries rule f n s) ≡ n)
  ends zero s = inr (ap length (expiries_none s))
  ends (suc n) s =
      let P : List Expiry → Type 0 = λ xs. ((last (shown s) xs).rates.current ≡ f.line_rate) ⊎ (length xs ≡ suc n) in
      ⊎_elim
      (λ there. subst P (sym (expiries_end (suc n) s there)) (inl there))
      (λ below. subst P (sym (expiries_more n s below)) (⊎_elim (λ h. inl h) (λ h. inr (ap suc h)) (ends n (next_stand rule f s))))
      (cases_eq (shown s).rates.current f.line_rate)

  module _ (laws : Lawful rule) (line : In LineRate f) (period : In Period f) where
    -- the limiter at its next expiry
    record Next (s : Stand) : Type 0 where
      within : ServingWithin rule f (next_stand rule f s).limiter
      later : s.time < (next_stand rule f s).time
      soon : time_left_of s.limiter ≤ f.period
      below : (shown s).rates.current ≤ f.line_rate
      not_lower : (shown s).rates.current ≤ (shown (next_stand rule f s)).rates.current

    next_row : (number time : ℕ) (r : Row) → InBounds rule f r → Next (record { number = number; time = time; limiter = InService r })
    next_row number time r h =
        let parts = raisable_parts rule.floor f.line_rate r.rates h.ready in
        let whole : max r.time_left 1 ≡ r.time_left = omega (arith, h.time_some) in
        let jump : micros rule f r.time_left (InService r) ≡ InService (expired f (timer_raised rule f r) (earned r (max r.time_left 1)) r) =
        ap (λ n. micros rule f n (InService r)) (sym whole) ∙ (jump_from rule f r r.time_left refl).0 in
        let kept : Within rule f (micros rule f r.time_left (InService r)) = (waiting rule laws f period r.time_left).keeps (InService r) h in
        let up = laws.raises f.line_rate r.rates _ h.ready in
        record {
          within = subst (ServingWithin rule f) (sym jump) (subst (Within rule f) jump kept);
          later = omega (arith, h.time_some);
          soon = h.time_most;
          below = parts.in_line.to_line;
          not_lower = subst (λ l. r.rates.current ≤ (shown (record { number = 0; time = 0; limiter = l })).rates.current) (sym jump) up.not_lower;
        }

    next_in : (s : Stand) (l : Limiter) → s.limiter ≡ l → ServingWithin rule f l → Next s
    next_in s Free is h = absurd h
    next_in s (InService r) is h = subst (λ l. Next (record { number = s.number; time = s.time; limiter = l })) (sym is) (next_row s.number s.time r h)

    step : (s : Stand) → ServingWithin rule f s.limiter → Next s
    step s h = next_in s s.limiter refl h

    pub step_within : (s : Stand) → ServingWithin rule f s.limiter → ServingWithin rule f (next_stand rule f s).limiter
    step_within s h = (step s h).within

    pub step_soon : (s : Stand) → ServingWithin rule f s.limiter → time_left_of s.limiter ≤ f.period
    step_soon s h = (step s h).soon

    climbs : (n : ℕ) (s : Stand) → ServingWithin rule f s.limiter → Climbs f.line_rate (shown s) (expiries rule f n s)
    climbs zero s h = subst (Climbs f.line_rate (shown s)) (sym (expiries_none s)) (step s h).below
    climbs (suc n) s h =
        let next = step s h in
        ⊎_elim
        (λ there. subst (Climbs f.line_rate (shown s)) (sym (expiries_end (suc n) s there)) next.below)
        (λ below.
        let under : (shown s).rates.current < f.line_rate = omega (arith, next.below) in
        subst (Climbs f.line_rate (shown s)) (sym (expiries_more n s below)) (next.later, under, next.not_lower, climbs n (next_stand rule f s) next.within))
        (cases_eq (shown s).rates.current f.line_rate)

    pub climbs_back : (s : Stand) (rows : List Expiry) → ServingWithin rule f s.limiter → rows ≡ expiries rule f bound s → ClimbsBack f.line_rate (shown s) rows
    climbs_back s rows within all = subst (ClimbsBack f.line_rate (shown s)) (sym all) (record { climbs = climbs bound s within; ends = ends bound s })

    -- a limiter that is taken and hears a notice serves, within bounds
    pub struck_within : (value : ℕ) → ServingWithin rule f (strike_stand rule f value).limiter
    struck_within value =
        let start = fresh_within rule laws f period line (record { flow = 0 }) in
        cond_both (eqb value 0) (InService (fresh f _)) (InService (noticed f value _ (fresh f _))) (ServingWithin rule f) (λ _. start) (λ _. noticed_within rule laws f period value (fresh f _) start)

-- one more is the last
pub last_push : (e : Expiry) (xs : List Expiry) (x : Expiry) → last e (xs ++ (x ∷ [])) ≡ x
last_push e [] x = refl
last_push e (y ∷ ys) x = last_push y ys x
