-- Where a notice goes, and the table after it.
use Rattle.std.specs.Prelude.{ℕ, ◌+◌, cond, List, Some, None, Option, nat_lt, slice_index_or, slice_set}
use Rattle.settings.specs.declared.figures.Figures.{Figures}
use Rattle.rates.specs.Rule.{Rule}
use Rattle.limiters.specs.declared.limiter.Identity.{Identity}
use Rattle.limiters.specs.declared.limiter.Limiter.{Limiter}
use Rattle.limiters.specs.declared.limiter.Limiter.TheVariants.{Free}
use Rattle.limiters.specs.Act.{heard, sent, taken}
use Rattle.limiters.specs.Table.{serving, first_free, or_else}

-- The slot that serves, or else the first free one at or after the cursor; none where neither is.
abbrev pub placed : Identity → ℕ → List Limiter → Option ℕ
placed who cursor ls = or_else (serving who ls) (first_free cursor ls)

-- One past a slot, going round.
abbrev pub next_cursor : ℕ → ℕ
next_cursor slot = cond (nat_lt (slot + 1) 64) (slot + 1) 0

module _ (rule : Rule) (f : Figures) (who : Identity) (value cursor : ℕ) (ls : List Limiter) where
  -- The notice is applied to the slot that serves, or to a free one that is taken first.
  abbrev pub slots_by : Option ℕ → Option ℕ → List Limiter
  slots_by (Some i) free = slice_set ls i (heard rule f value (slice_index_or ls i Free))
  slots_by None (Some i) = slice_set (slice_set ls i (taken f who (slice_index_or ls i Free))) i (heard rule f value (slice_index_or (slice_set ls i (taken f who (slice_index_or ls i Free))) i Free))
  slots_by None None = ls

  abbrev pub slots_after : List Limiter
  slots_after = slots_by (serving who ls) (first_free cursor ls)

  abbrev pub cursor_by : Option ℕ → Option ℕ → ℕ
  cursor_by (Some i) free = cursor
  cursor_by None (Some i) = next_cursor i
  cursor_by None None = cursor

  abbrev pub cursor_after : ℕ
  cursor_after = cursor_by (serving who ls) (first_free cursor ls)

-- A frame is charged to the slot that serves, if one does.
abbrev pub sent_by : Rule → Figures → ℕ → List Limiter → Option ℕ → List Limiter
sent_by rule f length ls None = ls
sent_by rule f length ls (Some i) = slice_set ls i (sent rule f length (slice_index_or ls i Free))
