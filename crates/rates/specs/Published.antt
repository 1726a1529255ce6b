-- The values that are published with the algorithm.
use Rattle.std.specs.Prelude.{◌≡◌, ℕ}
use Rattle.settings.specs.declared.figures.Figures.{Figures}
use Rattle.rates.specs.declared.rates.Rates.{Rates}
use Rattle.rates.specs.declared.rates.Stages.{Stages}
use Rattle.rates.specs.Standard.{standard}

abbrev pub both : ℕ → ℕ → Rates
both c t = record { current = c; target = t }

-- The end of the first byte stage.
abbrev pub first : Stages
first = record { byte = 1; timer = 0 }

pub record Published : Type 0 where
  pub least_cut : (f : Figures) → f.gain ≡ 8 → (standard f).cut 1000000 1000000 1 ≡ 992187
  pub greatest_cut : (f : Figures) → f.gain ≡ 8 → (standard f).cut 1000000 1000000 63 ≡ 507812
  pub tenfold : (f : Figures) → (standard f).raise 1000000 (both 10000 100000) first ≡ both 55000 100000
  pub above_tenfold : (f : Figures) → (standard f).raise 1000000 (both 10000 100001) first ≡ both 11250 12500
  pub one_short : (f : Figures) → (standard f).raise 1000000 (both 999999 1000000) first ≡ both 999999 1000000
