-- A frame at the table: whether it may pass, what it is charged to, and the mark that it then carries.
use Rattle.std.specs.Prelude.{ℕ, Bool, cond, List, Some, None, Option, slice_index_or}
use Rattle.settings.specs.declared.figures.Figures.{Figures}
use Rattle.rates.specs.Rule.{Rule}
use Rattle.limiters.specs.declared.limiter.Identity.{Identity}
use Rattle.limiters.specs.declared.limiter.Limiter.{Limiter}
use Rattle.limiters.specs.declared.limiter.Limiter.TheVariants.{Free, InService}
use Rattle.limiters.specs.Act.{may_pass, sent}
use Rattle.limiters.specs.Place.{sent_by}
use Rattle.limiters.specs.Table.{serving}

-- What stands at a slot that was found; a free limiter where none was.
abbrev pub at_slot : List Limiter → Option ℕ → Limiter
at_slot ls None = Free
at_slot ls (Some i) = slice_index_or ls i Free

-- A flow's limiter, or a free one where the flow has none.
abbrev pub limiter_of : Identity → List Limiter → Limiter
limiter_of who ls = at_slot ls (serving who ls)

-- The value that a limiter holds; a free one holds 0.
abbrev pub held_of : Limiter → ℕ
held_of Free = 0
held_of (InService r) = r.held

-- A frame may pass where the flow's limiter lets it.
abbrev pub passes : Figures → ℕ → Identity → List Limiter → Bool
passes f length who ls = may_pass f length (limiter_of who ls)

module _ (rule : Rule) (f : Figures) (length : ℕ) (who : Identity) (ls : List Limiter) where
  -- The mark: what the flow's limiter holds once the frame is charged, 0 if none remains.
  abbrev pub mark_of : ℕ
  mark_of = held_of (sent rule f length (limiter_of who ls))

  -- The mark of a frame that passes.
  abbrev pub marked : Option ℕ
  marked = cond (passes f length who ls) (Some mark_of) None

  -- A frame that passes is charged to its limiter; one that is held back changes nothing.
  abbrev pub slots_passed : List Limiter
  slots_passed = cond (passes f length who ls) (sent_by rule f length ls (serving who ls)) ls
