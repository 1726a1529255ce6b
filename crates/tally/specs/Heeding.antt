-- A notice that arrives: what becomes of it, and the limiters after it.
use Rattle.std.specs.Prelude.{ℕ, cond, List, Some, None, Option, ◌==◌, slice_index_or}
use Rattle.settings.specs.declared.figures.Figures.{Figures}
use Rattle.rates.specs.Rule.{Rule}
use Rattle.limiters.specs.Bounds.{current_of}
use Rattle.limiters.specs.Place.{placed, slots_after, cursor_after}
use Rattle.limiters.specs.declared.limiter.Identity.{Identity}
use Rattle.limiters.specs.declared.limiter.Limiter.{Limiter}
use Rattle.limiters.specs.declared.limiter.Limiter.TheVariants.{Free}
use Rattle.tally.specs.declared.call.Outcome.{Outcome}
use Rattle.tally.specs.declared.call.Outcome.TheVariants.{Applied, Unplaced, Ignored}
use Rattle.tally.specs.declared.notice.Notice.{Notice}

-- Applied at a slot, with the current rate that it then has; unplaced where there is none.
abbrev pub outcome_at : Identity → List Limiter → Option ℕ → Outcome
outcome_at who after (Some i) = Applied i (current_of (slice_index_or after i Free))
outcome_at who after None = Unplaced who

-- A value of 0 is ignored; any other is applied to the flow's limiter, or to a free one that is taken for it, or is unplaced.
module _ (rule : Rule) (f : Figures) (cursor : ℕ) (ls : List Limiter) (n : Notice) where
  abbrev pub slots_heeding : List Limiter
  slots_heeding = cond (n.value == 0) ls (slots_after rule f n.to n.value cursor ls)

  abbrev pub cursor_heeding : ℕ
  cursor_heeding = cond (n.value == 0) cursor (cursor_after rule f n.to n.value cursor ls)

  abbrev pub heeded : Outcome
  heeded = cond (n.value == 0) Ignored (outcome_at n.to (slots_after rule f n.to n.value cursor ls) (placed n.to cursor ls))
