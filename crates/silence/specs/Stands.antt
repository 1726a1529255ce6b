-- A silent flow's limiter, from expiry to expiry.
use Rattle.std.specs.Prelude.{ℕ, ◌+◌}
use Rattle.settings.specs.declared.figures.Figures.{Figures}
use Rattle.rates.specs.Rule.{Rule}
use Rattle.rates.specs.declared.rates.Rates.{Rates}
use Rattle.limiters.specs.Act.{heard, taken}
use Rattle.limiters.specs.Bounds.{InBounds}
use Rattle.limiters.specs.Wait.{micros}
use Rattle.limiters.specs.declared.limiter.Limiter.{Limiter}
use Rattle.limiters.specs.declared.limiter.Limiter.TheVariants.{Free, InService}
use Rattle.silence.specs.declared.expiry.Expiry.{Expiry}
use Rattle.silence.specs.declared.expiry.Stand.{Stand}

-- What is told of a limiter: its timer stage and its rates.
abbrev pub stage_of : Limiter → ℕ
stage_of Free = 0
stage_of (InService r) = r.stages.timer

abbrev pub both_rates : Limiter → Rates
both_rates Free = record { current = 0; target = 0 }
both_rates (InService r) = r.rates

abbrev pub shown : Stand → Expiry
shown s = record { number = s.number; time = s.time; stage = stage_of s.limiter; rates = both_rates s.limiter }

abbrev pub time_left_of : Limiter → ℕ
time_left_of Free = 0
time_left_of (InService r) = r.time_left

-- A limiter in service and within bounds.
abbrev pub ServingWithin : Rule → Figures → Limiter → Type 0
ServingWithin rule f Free = ⊥
ServingWithin rule f (InService r) = InBounds rule f r

module _ (rule : Rule) (f : Figures) where
  -- A limiter that is taken and hears a notice.
  abbrev pub strike_stand : ℕ → Stand
  strike_stand value = record { number = 0; time = 0; limiter = heard rule f value (taken f (record { flow = 0 }) Free) }

  -- The next expiry comes when the time that is left has passed.
  abbrev pub next_stand : Stand → Stand
  next_stand s = record { number = s.number + 1; time = s.time + time_left_of s.limiter; limiter = micros rule f (time_left_of s.limiter) s.limiter }
