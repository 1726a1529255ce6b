-- Waiting: single microseconds, one after another.
use Rattle.std.specs.Prelude.{◌≡◌, ℕ, zero, suc, ◌+◌, cond, nat_lt}
use Rattle.settings.specs.declared.figures.Figures.{Figures}
use Rattle.rates.specs.Rule.{Rule}
use Rattle.rates.specs.declared.rates.Rates.{Rates}
use Rattle.limiters.specs.declared.event.Event.TheVariants.{Microsecond}
use Rattle.limiters.specs.declared.limiter.Limiter.{Limiter}
use Rattle.limiters.specs.declared.limiter.Limiter.TheVariants.{Free, InService}
use Rattle.limiters.specs.declared.limiter.Row.{Row}
use Rattle.limiters.specs.Step.{risen, stepped}

module _ (rule : Rule) (f : Figures) where
  -- What the rule answers when the timer expires: the stage has risen already.
  abbrev pub timer_raised : Row → Rates
  timer_raised r = rule.raise f.line_rate r.rates (record { byte = r.stages.byte; timer = risen r.stages.timer })

  -- One microsecond of a limiter.
  abbrev pub tick : Limiter → Limiter
  tick Free = Free
  tick (InService r) = stepped f (Microsecond (timer_raised r)) (InService r)

  -- Whether it expires in it: 1 or 0.
  abbrev pub expires : Limiter → ℕ
  expires Free = 0
  expires (InService r) = cond (nat_lt 1 r.time_left) 0 1

  -- So many microseconds, and how many expiries they have.
  unfoldable pub micros : ℕ → Limiter → Limiter
  micros zero l = l
  micros (suc n) l = micros n (tick l)

  unfoldable pub expiries : ℕ → Limiter → ℕ
  expiries zero l = 0
  expiries (suc n) l = expires l + expiries n (tick l)

  -- A wait of m and then of n is a wait of m + n, in what it leaves and in what it counts.
  pub record AddsUp (l : Limiter) : Type 0 where
    pub leaves : (m n : ℕ) → micros (m + n) l ≡ micros n (micros m l)
    pub counts : (m n : ℕ) → expiries (m + n) l ≡ expiries m l + expiries n (micros m l)
