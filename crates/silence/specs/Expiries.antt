-- A silent flow's way back to the line rate: only its timer raises it.
use Rattle.std.specs.Prelude.{◌≡◌, ℕ, zero, suc, ◌<◌, ◌≤◌, cond, ◌⊎◌, List, [], ◌∷◌, length, ◌==◌}
use Rattle.settings.specs.declared.figures.Figures.{Figures}
use Rattle.rates.specs.Rule.{Rule}
use Rattle.silence.specs.declared.expiry.Expiry.{Expiry}
use Rattle.silence.specs.declared.expiry.Stand.{Stand}
use Rattle.silence.specs.Stands.{shown, strike_stand, next_stand}

-- The most expiries that are followed.
abbrev pub bound : ℕ
bound = 1000

module _ (rule : Rule) (f : Figures) where
  -- A flow at the line rate, cut by a notice.
  abbrev pub struck : ℕ → Expiry
  struck value = shown (strike_stand rule f value)

  -- What is told of the expiries after s until the current rate is the line rate, at most so many.
  unfoldable pub expiries : ℕ → Stand → List Expiry
  expiries zero s = []
  expiries (suc n) s = cond ((shown s).rates.current == f.line_rate) [] (shown (next_stand rule f s) ∷ expiries n (next_stand rule f s))

  abbrev pub recovery : ℕ → List Expiry
  recovery value = expiries bound (strike_stand rule f value)

-- Time goes on, and the current rate does not fall and stays below the line rate until the last expiry, which may reach it.
abbrev pub Climbs : ℕ → Expiry → List Expiry → Type 0
Climbs line e [] = e.rates.current ≤ line
Climbs line e (x ∷ xs) = (e.time < x.time) × (e.rates.current < line) × (e.rates.current ≤ x.rates.current) × Climbs line x xs

-- The last of some expiries after e.
abbrev pub last : Expiry → List Expiry → Expiry
last e [] = e
last e (x ∷ xs) = last x xs

-- The last expiry is at the line rate, unless the bound was met.
abbrev pub Ends : ℕ → Expiry → List Expiry → Type 0
Ends line e xs = ((last e xs).rates.current ≡ line) ⊎ (length xs ≡ bound)

-- The law: from the notice on, the flow climbs to the line rate.
pub record ClimbsBack (line : ℕ) (start : Expiry) (rows : List Expiry) : Type 0 where
  pub climbs : Climbs line start rows
  pub ends : Ends line start rows
