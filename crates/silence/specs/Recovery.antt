-- What a recovery holds.
use Rattle.std.specs.Prelude.{◌≡◌, ℕ, vec_items}
use Rattle.settings.specs.declared.figures.Figures.{Figures}
use Rattle.rates.specs.Rule.{Rule}
use Rattle.silence.specs.declared.expiry.Stand.{Stand}
use Rattle.silence.specs.Stands.{shown}
use Rattle.silence.specs.declared.expiry.Recovery.{Recovery}
use Rattle.silence.specs.Expiries.{bound, struck, expiries, recovery, last}

-- A recovery from a start on has each expiry after it.
pub record Follows (rule : Rule) (f : Figures) (from : Stand) (v : Recovery) : Type 0 where
  pub start : v.start ≡ shown from
  pub rows : vec_items v.rows ≡ expiries rule f bound from
  pub end : v.end ≡ last (shown from) (vec_items v.rows)

-- A recovery from a notice starts with the cut.
pub record Recovered (rule : Rule) (f : Figures) (value : ℕ) (v : Recovery) : Type 0 where
  pub start : v.start ≡ struck rule f value
  pub rows : vec_items v.rows ≡ recovery rule f value
  pub end : v.end ≡ last (struck rule f value) (recovery rule f value)
