-- The rungs: the rates of a shaper that has only fixed ones.
use Rattle.std.specs.Prelude.{◌≡◌, ℕ, zero, suc, ◌+◌, ◌*◌, ◌/◌, ◌%◌, ◌^◌, ◌<◌, ◌≤◌, cond, List, [], ◌∷◌, Some, None, Option, nat_le, nat_lt}

-- There are 640, ten octaves of 64.
abbrev pub count : ℕ
count = 640

-- 64 equal steps in an octave, and each octave twice the one before.
abbrev pub formula : ℕ → ℕ
formula i = 157 * (64 + i % 64) * 2 ^ (i / 64)

-- Rung i.
unfoldable pub rung : ℕ → ℕ
rung i = formula i

-- n rungs from rung a on.
abbrev pub listed : ℕ → ℕ → List ℕ
listed a zero = []
listed a (suc n) = formula a ∷ listed (suc a) n

-- They rise strictly.
abbrev pub Rising : Type 0
Rising = (i j : ℕ) → i < j → j < count → rung i < rung j

-- n rungs are below a rate: just the first n.
pub record Parted (rate n : ℕ) : Type 0 where
  pub within : n ≤ count
  pub before : (k : ℕ) → k < n → rung k < rate
  pub from : (k : ℕ) → n ≤ k → k < count → rate ≤ rung k

-- r is a rung.
abbrev pub IsRung : ℕ → Type 0
IsRung r = (k : ℕ) × (k < count) × (rung k ≡ r)

-- The greatest rung below a limit, and none where no rung is below it.
abbrev pub GreatestBelow : ℕ → Option ℕ → Type 0
GreatestBelow limit None = (k : ℕ) → k < count → limit ≤ rung k
GreatestBelow limit (Some r) = IsRung r × (r < limit) × ((k : ℕ) → k < count → rung k < limit → rung k ≤ r)

-- The least rung that is at least a limit, and none where all are below it.
abbrev pub LeastFrom : ℕ → Option ℕ → Type 0
LeastFrom limit None = (k : ℕ) → k < count → rung k < limit
LeastFrom limit (Some r) = IsRung r × (limit ≤ r) × ((k : ℕ) → k < count → limit ≤ rung k → r ≤ rung k)

-- The same two as functions: the last of the first n rungs that is below a limit, and the first that is not.
unfoldable pub last_below : ℕ → ℕ → Option ℕ
last_below limit zero = None
last_below limit (suc n) = cond (nat_lt (rung n) limit) (Some (rung n)) (last_below limit n)

unfoldable pub first_from : ℕ → ℕ → Option ℕ
first_from limit zero = None
first_from limit (suc n) = elim (first_from limit n) [ Some r ↦ Some r | None ↦ cond (nat_le limit (rung n)) (Some (rung n)) None ]

abbrev pub greatest_below : ℕ → Option ℕ
greatest_below limit = last_below limit count

abbrev pub least_from : ℕ → Option ℕ
least_from limit = first_from limit count
