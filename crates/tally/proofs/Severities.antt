-- The values of notices: a severity, and what a record says, are at most 63.
use Rattle.std.proofs.lemmas.Grind.{common_steps}
use Rattle.std.proofs.Common.{◌≡◌, ℕ, ◌^◌, ◌<◌, ◌≤◌, Bool, cond, List, Ok, arith}
use Rattle.record.specs.Decoded.{decoded}
use Rattle.record.specs.declared.Record.{Record}
use Rattle.notifiers.proofs.Quantized.{quantized_most}
use Rattle.notifiers.specs.Meter.{valued}
use Rattle.notifiers.specs.Severity.{severity, most, clamped, feedback}
use Rattle.notifiers.specs.declared.shown.Showing.{Showing}
use Rattle.notifiers.specs.declared.shown.Showing.TheVariants.{Unsampled, Quiet, Notice}
use Rattle.tally.specs.Tally.{Constants}

-- a decoded record's value
pub value_low : (bytes : List ℕ) (x : Record) → decoded bytes ≡ Ok x → x.value ≤ 63
value_low bytes x e = grind (arith, common_steps)

-- accepted settings make M small
most_small : (Q W : ℕ) → Q ≤ 512 → W ≤ 8 → most Q W < 2 ^ 32
most_small Q W a b = grind (arith, common_steps)

pub severity_low : (K : Constants) (q old : ℕ) → severity K.settings.figures.set_point K.settings.figures.weight q old ≤ 63
severity_low K q old =
    let Q = K.settings.figures.set_point in
    let W = K.settings.figures.weight in
    quantized_most (most Q W) (clamped (most Q W) (feedback Q W q old)) (most_small Q W K.settings.set_point_in.1 K.settings.weight_in.1) (omega arith)

-- the notice that a sample makes has a value from 1 to 63
abbrev pub Fair : Showing → Type 0
Fair Unsampled = Unit {0}
Fair Quiet = Unit {0}
Fair (Notice v) = (1 ≤ v) × (v ≤ 63)

pub valued_fair : (v : ℕ) (w : Bool) (mark : ℕ) → v ≤ 63 → Fair (valued v w mark)
valued_fair v w mark low = grind (arith, common_steps)

pub shown_fair : (sampled : Bool) (s : Showing) → Fair s → Fair (cond sampled s Unsampled)
shown_fair sampled s fair = grind (arith, common_steps)
