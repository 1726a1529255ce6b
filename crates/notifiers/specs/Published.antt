-- All values that are published with the algorithm, of the rates and of the severity.
use Rattle.std.specs.Prelude.{◌≡◌}
use Rattle.rates.specs.Published.{Published}
use Rattle.notifiers.specs.Severity.{severity}

-- Severity at set point 16 and weight 2.
pub record PublishedValues : Type 0 where
  pub rates : Published
  pub one_page_over : severity 16 2 17 17 ≡ 0
  pub two_pages_over : severity 16 2 18 18 ≡ 1
  pub burst : severity 16 2 256 0 ≡ 40
