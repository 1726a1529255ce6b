-- Jumps are single microseconds.
use Rattle.std.proofs.Common.{◌≡◌, ℕ, zero, suc, ◌+◌, ◌-◌, ◌*◌, ◌<◌, ◌≤◌, min, max, refl, ◌∙◌, suc-mul, suc-add, one-mul, zero-add, arith}
use Rattle.std.proofs.lemmas.Grind.{common_steps}
use Rattle.settings.specs.declared.figures.Figures.{Figures}
use Rattle.rates.specs.Rule.{Rule}
use Rattle.limiters.specs.declared.limiter.Limiter.{Limiter}
use Rattle.limiters.specs.declared.limiter.Limiter.TheVariants.{Free, InService}
use Rattle.limiters.specs.declared.limiter.Row.{Row}
use Rattle.limiters.specs.Step.{full_credit, earned, expired, passed}
use Rattle.limiters.specs.Wait.{timer_raised, tick, micros, expiries, AddsUp}

-- credit earned in two parts
earned_more : (r : Row) (k : ℕ) → min (earned r 1 + k * r.rates.current) full_credit ≡ earned r (suc k)
earned_more r k = omega (arith, suc-mul k r.rates.current, one-mul r.rates.current)

earned_then : (r : Row) (k : ℕ) → 1 ≤ k → min (earned r k + 1 * r.rates.current) full_credit ≡ earned r (suc k)
earned_then r k some = omega (arith, suc-mul k r.rates.current, one-mul r.rates.current)

module _ (rule : Rule) (f : Figures) where
  adds : (m n : ℕ) (l : Limiter) → micros rule f (m + n) l ≡ micros rule f n (micros rule f m l)
  unfolding micros
  adds zero n l = grind (arith, common_steps)
  adds (suc m) n l = rw suc-add (adds m n (tick rule f l))

  counts : (m n : ℕ) (l : Limiter) → expiries rule f (m + n) l ≡ expiries rule f m l + expiries rule f n (micros rule f m l)
  unfolding micros expiries
  counts zero n l = grind (arith, common_steps)
  counts (suc m) n l = rw suc-add (omega (arith, counts m n (tick rule f l)))

  pub adds_up : (l : Limiter) → AddsUp rule f l
  adds_up l = record { leaves = λ m n. adds m n l; counts = λ m n. counts m n l }

  -- a microsecond that is not the last
  tick_passes : (r : Row) → 1 < r.time_left → tick rule f (InService r) ≡ InService (passed r 1)
  tick_passes r more = grind (arith, common_steps)

  tick_expires : (r : Row) → r.time_left ≤ 1 → tick rule f (InService r) ≡ InService (expired f (timer_raised rule f r) (earned r 1) r)
  tick_expires r none = grind (arith, common_steps)

  passed_more : (r : Row) (k : ℕ) → passed (passed r 1) k ≡ passed r (suc k)
  passed_more r k = grind (arith, common_steps, earned_more r k)

  pub passes : (k : ℕ) (r : Row) → suc k < r.time_left → micros rule f (suc k) (InService r) ≡ InService (passed r (suc k))
  unfolding micros
  passes zero r more = tick_passes r (omega arith)
  passes (suc k) r more = grind (arith, common_steps, tick_passes r (omega arith), passes k (passed r 1) (omega arith), passed_more r (suc k))

  pub passes_none : (k : ℕ) (r : Row) → k < r.time_left → expiries rule f k (InService r) ≡ 0
  unfolding expiries
  passes_none zero r more = refl
  passes_none (suc k) r more =
      grind (arith, common_steps, tick_passes r (omega arith), passes_none k (passed r 1) (omega arith))

  -- the jump: as many microseconds as are left, and at least one
  pub jump_from : (r : Row) (t : ℕ) → r.time_left ≡ t → (micros rule f (max t 1) (InService r) ≡ InService (expired f (timer_raised rule f r) (earned r (max t 1)) r)) × (expiries rule f (max t 1) (InService r) ≡ 1)
  unfolding micros expiries
  jump_from r zero e = (grind (arith, common_steps), grind (arith, common_steps))
  jump_from r (suc zero) e = (grind (arith, common_steps), grind (arith, common_steps))
  jump_from r (suc (suc k)) e =
      let on = passes k r (omega arith) in (
        grind (arith, common_steps, adds (suc k) 1 (InService r), on, tick_expires (passed r (suc k)) (omega arith), earned_then r (suc k) (omega arith)),
        grind (arith, common_steps, counts (suc k) 1 (InService r), passes_none (suc k) r (omega arith), on),
      )

  -- what is left when no expiry is
  pub rest : (r : Row) (n : ℕ) → 0 < n → n < max r.time_left 1 → micros rule f n (InService r) ≡ InService (passed r n)
  rest r zero some less = absurd (omega arith)
  rest r (suc n) some less = passes n r (omega arith)

  pub rest_none : (r : Row) (n : ℕ) → n < max r.time_left 1 → expiries rule f n (InService r) ≡ 0
  unfolding expiries
  rest_none r zero less = refl
  rest_none r (suc n) less = passes_none (suc n) r (omega arith)

  pub micros_none : (l : Limiter) → micros rule f 0 l ≡ l
  unfolding micros
  micros_none l = refl

  pub free_waits : (n : ℕ) → (micros rule f n Free ≡ Free) × (expiries rule f n Free ≡ 0)
  unfolding micros expiries
  free_waits zero = (refl, refl)
  free_waits (suc n) = let more = free_waits n in (more.0, zero-add _ ∙ more.1)

  -- one turn of the jumping
  pub jump_turn : (r next : Row) (n step : ℕ) → step ≡ max r.time_left 1 → next ≡ expired f (timer_raised rule f r) (earned r step) r → step ≤ n
      → (micros rule f (n - step) (InService next) ≡ micros rule f n (InService r)) × (1 + expiries rule f (n - step) (InService next) ≡ expiries rule f n (InService r))
  jump_turn r next n step is gives enough =
      let here = jump_from r r.time_left refl in (
        grind (arith, common_steps, adds step (n - step) (InService r), here.0),
        grind (arith, common_steps, counts step (n - step) (InService r), here.0, here.1),
      )
