-- No flow has two limiters.
use Rattle.std.specs.Prelude.{◌≡◌, ℕ, ◌<◌, true, List, Some, map, length, slice_index_or}
use Rattle.settings.specs.declared.figures.Figures.{Figures}
use Rattle.rates.specs.Rule.{Rule}
use Rattle.limiters.specs.declared.limiter.Identity.{Identity}
use Rattle.limiters.specs.declared.limiter.Limiter.{Limiter}
use Rattle.limiters.specs.declared.limiter.Limiter.TheVariants.{Free}
use Rattle.limiters.specs.Place.{slots_after, sent_by}
use Rattle.limiters.specs.Table.{fits, serving}
use Rattle.limiters.specs.Wait.{micros}

-- Two slots that serve the same are one.
abbrev pub Single : List Limiter → Type 0
Single ls = (who : Identity) (j k : ℕ) → j < length ls → k < length ls → fits (Some who) (slice_index_or ls j Free) ≡ true → fits (Some who) (slice_index_or ls k Free) ≡ true → j ≡ k

-- A table of 64 in which no flow has two limiters stays so, whatever comes.
pub record StaysSingle (rule : Rule) (f : Figures) : Type 0 where
  pub by_notice : (who : Identity) (value cursor : ℕ) (ls : List Limiter) → length ls ≡ 64 → Single ls → Single (slots_after rule f who value cursor ls)
  pub by_frame : (who : Identity) (bytes : ℕ) (ls : List Limiter) → Single ls → Single (sent_by rule f bytes ls (serving who ls))
  pub by_wait : (n : ℕ) (ls : List Limiter) → Single ls → Single (map (micros rule f n) ls)
