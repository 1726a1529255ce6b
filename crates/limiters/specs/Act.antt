-- A limiter under a rate rule: the rule is asked, and the event carries its answer.
use Rattle.std.specs.Prelude.{ℕ, Bool, true, not, ◌&&◌, nat_lt}
use Rattle.settings.specs.declared.figures.Figures.{Figures}
use Rattle.rates.specs.Rule.{Rule}
use Rattle.rates.specs.declared.rates.Rates.{Rates}
use Rattle.limiters.specs.declared.event.Event.TheVariants.{Taken, Notice, Frame}
use Rattle.limiters.specs.declared.limiter.Identity.{Identity}
use Rattle.limiters.specs.declared.limiter.Limiter.{Limiter}
use Rattle.limiters.specs.declared.limiter.Limiter.TheVariants.{Free, InService}
use Rattle.limiters.specs.declared.limiter.Row.{Row}
use Rattle.limiters.specs.Step.{charge, risen, stepped}

abbrev pub taken : Figures → Identity → Limiter → Limiter
taken f who l = stepped f (Taken who) l

-- No frame may pass a limiter whose current rate is below the line rate and whose credit is below its charge.
abbrev pub may_pass : Figures → ℕ → Limiter → Bool
may_pass f length Free = true
may_pass f length (InService r) = not (nat_lt r.rates.current f.line_rate && nat_lt r.credit (charge length))

module _ (rule : Rule) (f : Figures) where
  -- What the rule answers when the byte count runs out: the stage has risen already.
  abbrev pub byte_raised : Row → Rates
  byte_raised r = rule.raise f.line_rate r.rates (record { byte = risen r.stages.byte; timer = r.stages.timer })

  -- A notice of a value.
  abbrev pub heard : ℕ → Limiter → Limiter
  heard v Free = Free
  heard v (InService r) = stepped f (Notice v (rule.cut f.line_rate r.rates.current v)) (InService r)

  -- An accepted frame.
  abbrev pub sent : ℕ → Limiter → Limiter
  sent length Free = Free
  sent length (InService r) = stepped f (Frame length (byte_raised r)) (InService r)
