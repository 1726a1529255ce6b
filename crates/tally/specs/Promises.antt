-- The three promises, over every run of every line.
use Rattle.std.specs.Prelude.{◌≡◌, ℕ, ◌+◌, ◌<◌, ◌≤◌, true, false, List, [], ◌∷◌, ◌++◌, length, Some, None, Ok, Err, sum_by, Option, Result, slice_index_or}
use Rattle.std.specs.List.{flat_map, AllByRecursion}
use Rattle.record.specs.Decoded.{decoded}
use Rattle.record.specs.declared.Record.{Record}
use Rattle.record.specs.declared.faults.ReadFault.{ReadFault}
use Rattle.rates.specs.Rule.{Falls}
use Rattle.notifiers.specs.Severity.{severity}
use Rattle.limiters.specs.Pass.{limiter_of}
use Rattle.limiters.specs.Single.{Single}
use Rattle.limiters.specs.Step.{full_credit}
use Rattle.limiters.specs.Table.{fits}
use Rattle.limiters.specs.declared.limiter.Identity.{Identity}
use Rattle.limiters.specs.declared.limiter.Limiter.{Limiter}
use Rattle.limiters.specs.declared.limiter.Limiter.TheVariants.{Free, InService}
use Rattle.limiters.specs.declared.limiter.Row.{Row}
use Rattle.tally.specs.declared.call.Answer.TheVariants.{Accepted, Heard}
use Rattle.tally.specs.declared.call.Offered.{Offered}
use Rattle.tally.specs.declared.call.Offered.TheVariants.{Unsampled, Quiet, Waiting, Overrun}
use Rattle.tally.specs.declared.call.Outcome.TheVariants.{Applied, Unplaced}
use Rattle.tally.specs.declared.frame.Frame.{Frame}
use Rattle.tally.specs.declared.notice.Notice.{Notice}
use Rattle.tally.specs.Counts.{made_at, overrun_at, applied_at, unplaced_at, joins_at, takes_at, bytes_since, charged_at, earned_at}
use Rattle.tally.specs.Runs.{Moment, Run, Definite}
use Rattle.tally.specs.Steps.{Asked, offer, leave, deliver, receive, wait, notice_in}
use Rattle.tally.specs.Tally.{Constants, Tally, opened, pages_waiting}

-- A limiter in service has floor ≤ current ≤ target, and current ≤ the line rate.
pub record RatesKept (K : Constants) (r : Row) : Type 0 where
  pub from_floor : K.rule.floor ≤ r.rates.current
  pub ordered : r.rates.current ≤ r.rates.target
  pub to_line : r.rates.current ≤ K.settings.figures.line_rate

abbrev pub InRates : Constants → Limiter → Type 0
InRates K Free = Unit {0}
InRates K (InService r) = RatesKept K r

-- The rate that a flow is held to: its limiter's current rate, and the line rate without a limiter.
abbrev pub rate_in : Constants → Limiter → ℕ
rate_in K Free = K.settings.figures.line_rate
rate_in K (InService r) = r.rates.current

abbrev pub flow_rate : Constants → Identity → Tally → ℕ
flow_rate K who t = rate_in K (limiter_of who t.slots)

-- The notice that a call is about: the oldest that waits, or the one in a record.
abbrev pub oldest : List Notice → Option Notice
oldest [] = None
oldest (n ∷ ns) = Some n

abbrev pub in_record : Result Record ReadFault → Option Notice
in_record (Ok x) = Some (notice_in x)
in_record (Err e) = None

abbrev pub notice_for : Tally → Asked → Option Notice
notice_for t (offer who n) = None
notice_for t leave = None
notice_for t deliver = oldest t.notices
notice_for t (receive bytes) = in_record (decoded bytes)
notice_for t (wait n) = None

-- An applied notice sets its flow's rate to what it answers: lower than before unless that was the floor, and at least half.
abbrev pub Lowers : Constants → Moment → Type 0
Lowers K m =
    (slot now' : ℕ) → m.answer ≡ Ok (Heard (Applied slot now'))
    → (n : Notice) × (notice_for m.before m.asked ≡ Some n) × (flow_rate K n.to m.after ≡ now') × Falls K.rule.floor (flow_rate K n.to m.before) now'

-- A notice is unplaced only where every limiter is in service; the answer names the flow of the notice that the call is about.
abbrev pub Crowded : Moment → Type 0
Crowded m =
    (who : Identity) → m.answer ≡ Ok (Heard (Unplaced who))
    → (n : Notice) × (notice_for m.before m.asked ≡ Some n) × (n.to ≡ who) × ((i : ℕ) → i < 64 → fits None (slice_index_or m.before.slots i Free) ≡ false)

-- One slot serves a flow before and after a call.
abbrev pub Serves : Identity → ℕ → Moment → Type 0
Serves who i m = (fits (Some who) (slice_index_or m.before.slots i Free) ≡ true) × (fits (Some who) (slice_index_or m.after.slots i Free) ≡ true)

-- A sample, and the notice that it made.
abbrev pub Sampled : Offered → Type 0
Sampled Unsampled = ⊥
Sampled Quiet = Unit {0}
Sampled (Waiting v) = Unit {0}
Sampled (Overrun v) = Unit {0}

abbrev pub Makes : ℕ → Offered → Type 0
Makes v Unsampled = ⊥
Makes v Quiet = ⊥
Makes v (Waiting w) = w ≡ v
Makes v (Overrun w) = w ≡ v

-- A sample whose severity, by the pages that wait and the old before, is above its frame's mark made a notice of exactly that severity.
abbrev pub Told : Constants → Moment → Type 0
Told K m =
    (o : Offered) (f : Frame) → m.answer ≡ Ok (Accepted o) → m.after.frames ≡ m.before.frames ++ (f ∷ []) → Sampled o
    → f.mark < severity K.settings.figures.set_point K.settings.figures.weight (pages_waiting m.after.frames) m.before.old
    → Makes (severity K.settings.figures.set_point K.settings.figures.weight (pages_waiting m.after.frames) m.before.old) o

pub record Promises (K : Constants) (ms : List Moment) (u : Tally) : Type 0 where
  -- Rates: every limiter in service is in bounds, no flow has two, and an applied notice lowers.
  pub rates : (i : ℕ) → i < 64 → InRates K (slice_index_or u.slots i Free)
  pub single : Single u.slots
  pub lowers : AllByRecursion (Lowers K) ms
  -- Pace: over calls in a row with one slot serving the flow before and after each, the flow's frames are charged at most full credit and what the slot earned.
  pub pace :
      (who : Identity) (i : ℕ) (before stretch after : List Moment) → i < 64 → ms ≡ before ++ (stretch ++ after) → AllByRecursion (Serves who i) stretch
      → sum_by (charged_at who) stretch ≤ full_credit + sum_by (earned_at K i) stretch
  -- Notices: made = applied + unplaced + overrun + waiting; they are taken off in the order made; the gap; a sample above the mark tells; and one is unplaced only in a crowd.
  pub account : sum_by made_at ms ≡ sum_by applied_at ms + sum_by unplaced_at ms + sum_by overrun_at ms + length u.notices
  pub order : flat_map joins_at ms ≡ flat_map takes_at ms ++ u.notices
  pub gap_kept : bytes_since 0 ms ≤ K.gap
  pub told : AllByRecursion (Told K) ms
  pub crowded : AllByRecursion Crowded ms

-- From any opening, whatever the notifier's old, after any list of calls. And the relation is neither empty nor too weak.
pub record HoldsAlways : Type 0 where
  pub promised : (K : Constants) (old : ℕ) (ms : List Moment) (u : Tally) → Run K (opened old) ms u → Promises K ms u
  pub definite : (K : Constants) → Definite K
