-- The published values of the standard rule.
use Rattle.std.proofs.Common.{rules}
use Rattle.rates.specs.Published.{Published}

pub published : Published
published = search rules
