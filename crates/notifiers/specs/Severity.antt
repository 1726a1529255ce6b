-- How far the queue is from where it should be.
use Rattle.std.specs.Prelude.{ℕ, suc, ◌+◌, ◌-◌, ◌*◌, ◌/◌, ◌^◌, min, ℤ, pos, negsuc, ◌-ℤ◌, ◌*ℤ◌}
use Rattle.std.specs.Int.Count.{count_leading_zeros}

-- Fb = (Q − q) − W × (q − old), a signed number: Q the set point, W the weight, q the pages waiting, old those at the last sample.
abbrev pub feedback : ℕ → ℕ → ℕ → ℕ → ℤ
feedback Q W q old = (pos Q -ℤ pos q) -ℤ (pos W *ℤ (pos q -ℤ pos old))

-- M, the greatest that −Fb counts for.
abbrev pub most : ℕ → ℕ → ℕ
most Q W = Q * (2 * W + 1)

-- −Fb, at least 0.
abbrev pub lack : ℤ → ℕ
lack (pos n) = 0
lack (negsuc n) = suc n

-- And at most M.
abbrev pub clamped : ℕ → ℤ → ℕ
clamped M fb = min M (lack fb)

-- How many binary digits a number has.
abbrev pub digits : ℕ → ℕ
digits n = 32 - count_leading_zeros 32 n

-- The first 6 of M's binary digits, of a number.
unfoldable pub quantized : ℕ → ℕ → ℕ
quantized M n = n / 2 ^ (digits M - 6)

-- Severity: −Fb, clamped and then quantized.
abbrev pub severity : ℕ → ℕ → ℕ → ℕ → ℕ
severity Q W q old = quantized (most Q W) (clamped (most Q W) (feedback Q W q old))
