-- What can be read of a line: a flow's rates, and the limiters in service.
use Rattle.std.specs.Prelude.{ℕ, ◌+◌, List, [], ◌∷◌, Some, None, Option, slice_index_or}
use Rattle.limiters.specs.Table.{serving}
use Rattle.limiters.specs.declared.limiter.Identity.{Identity}
use Rattle.limiters.specs.declared.limiter.Limiter.{Limiter}
use Rattle.limiters.specs.declared.limiter.Limiter.TheVariants.{Free, InService}
use Rattle.line.specs.declared.listing.FlowRates.{FlowRates}
use Rattle.line.specs.declared.listing.ListedRow.{ListedRow}

-- The line rate for both where no limiter serves.
abbrev pub unlimited : ℕ → FlowRates
unlimited line = record { slot = None; rates = record { current = line; target = line } }

abbrev pub rates_at : ℕ → ℕ → Limiter → FlowRates
rates_at line i Free = unlimited line
rates_at line i (InService r) = record { slot = Some i; rates = r.rates }

abbrev pub rates_by : ℕ → List Limiter → Option ℕ → FlowRates
rates_by line ls None = unlimited line
rates_by line ls (Some i) = rates_at line i (slice_index_or ls i Free)

-- The slot of a flow's limiter with its rates.
abbrev pub rates_of_flow : ℕ → Identity → List Limiter → FlowRates
rates_of_flow line who ls = rates_by line ls (serving who ls)

-- A row for each limiter in service, in slot order, counted from i.
abbrev pub listed_at : ℕ → Limiter → List ListedRow → List ListedRow
listed_at i Free rows = rows
listed_at i (InService r) rows = record { slot = i; serves = r.serves } ∷ rows

unfoldable pub listed : ℕ → List Limiter → List ListedRow
listed i [] = []
listed i (l ∷ ls) = listed_at i l (listed (i + 1) ls)
