-- The published values.
use Rattle.std.proofs.Common.{refl}
use lib.Count.{count_leading_zeros}
use Rattle.rates.proofs.Values.{published}
use Rattle.notifiers.specs.Published.{PublishedValues}
use Rattle.notifiers.specs.Severity.{quantized}

pub published_values : PublishedValues
unfolding quantized count_leading_zeros
published_values = record { rates = published; one_page_over = refl; two_pages_over = refl; burst = refl }
