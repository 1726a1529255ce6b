-- Two rates in order.
use Rattle.std.specs.Prelude.{cond, Some, None, Option, nat_le}
use Rattle.std.specs.Option.{option_map}
use Rattle.rates.specs.declared.rates.Rates.{Rates}
use Rattle.rates.specs.declared.pair.RatePair.{RatePair}

-- The rates that a pair holds.
abbrev pub rates_of : RatePair → Rates
rates_of p = record { current = p.current; target = p.target }

abbrev pub told : Option RatePair → Option Rates
told o = option_map rates_of o

-- Rates make a pair where the current rate is at most the target.
abbrev pub paired : Rates → Option Rates
paired r = cond (nat_le r.current r.target) (Some r) None
