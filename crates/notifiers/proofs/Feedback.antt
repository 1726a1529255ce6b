-- Fb with its product taken apart.
use Rattle.std.proofs.Common.{◌≡◌, ℕ, zero, suc, ◌*◌, pos, ◌-ℤ◌, ◌*ℤ◌, suc-mul, zero-mul, arith}
use lib.IntN.{zero-*ℤ, suc_ℤ-*ℤ}
use Rattle.std.proofs.lemmas.Int.{ints}

pub spread : (W q old : ℕ) → pos W *ℤ (pos q -ℤ pos old) ≡ pos (W * q) -ℤ pos (W * old)
spread zero q old = omega (arith, ints, zero-*ℤ (pos q -ℤ pos old), zero-mul q, zero-mul old)
spread (suc W) q old = omega (arith, ints, spread W q old, suc_ℤ-*ℤ (pos W) (pos q -ℤ pos old), suc-mul W q, suc-mul W old)
