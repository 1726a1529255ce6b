-- Six digits are left.
use Rattle.std.proofs.Common.{ℕ, ◌-◌, ◌/◌, ◌^◌, ◌<◌, ◌≤◌, arith, pow_pos, pow_mono, pow-add}
use lib.Count.{leading_length}
use Rattle.std.proofs.lemmas.Nat.{div_below}
use Rattle.std.proofs.lemmas.Grind.{common_steps}
use Rattle.notifiers.specs.Severity.{quantized}

-- a number of m digits, with the last m - 6 cut off
short : (m n : ℕ) → n < 2 ^ m → n / 2 ^ (m - 6) < 64
short m n small = grind (arith, common_steps, div_below n (2 ^ (m - 6)) 64 (pow_pos (m - 6)), pow-add 2 6 (m - 6), pow_mono {i = m} {j = 6})

pub quantized_most : (M n : ℕ) → M < 2 ^ 32 → n ≤ M → quantized M n ≤ 63
unfolding quantized
quantized_most M n fits le =
    let found = leading_length 32 M fits in
    grind (arith, common_steps, found.1, found.2, short found.0 n)
