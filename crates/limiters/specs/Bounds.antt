-- What every event keeps.
use Rattle.std.specs.Prelude.{◌≡◌, ℕ, zero, suc, ◌+◌, ◌≤◌, true}
use Rattle.settings.specs.declared.figures.Figures.{Figures}
use Rattle.rates.specs.Rule.{Rule, raisable, cuttable, Falls}
use Rattle.limiters.specs.declared.limiter.Identity.{Identity}
use Rattle.limiters.specs.declared.limiter.Limiter.{Limiter}
use Rattle.limiters.specs.declared.limiter.Limiter.TheVariants.{Free, InService}
use Rattle.limiters.specs.declared.limiter.Row.{Row}
use Rattle.limiters.specs.Act.{heard, sent, taken}
use Rattle.limiters.specs.Step.{full_credit, noticed}
use Rattle.limiters.specs.Wait.{tick, micros}

-- A row within bounds: floor ≤ current ≤ line rate, current ≤ target ≤ the largest, credit at most full, time left from 1 to the period.
pub record InBounds (rule : Rule) (f : Figures) (r : Row) : Type 0 where
  pub ready : raisable rule.floor f.line_rate r.rates ≡ true
  pub credit_full : r.credit ≤ full_credit
  pub time_some : 1 ≤ r.time_left
  pub time_most : r.time_left ≤ f.period

abbrev pub Within : Rule → Figures → Limiter → Type 0
Within rule f Free = Unit {0}
Within rule f (InService r) = InBounds rule f r

-- A limiter that is taken is within bounds, and a notice keeps it so. One of value 1 to 63 lowers a rate above the floor and leaves at least half.
pub record HearingKeeps (rule : Rule) (f : Figures) (value : ℕ) : Type 0 where
  pub takes : (who : Identity) (l : Limiter) → Within rule f l → Within rule f (taken f who l)
  pub keeps : (l : Limiter) → Within rule f l → Within rule f (heard rule f value l)
  pub lowers : (r : Row) → cuttable rule.floor f.line_rate r.rates.current value ≡ true → Falls rule.floor r.rates.current (noticed f value (rule.cut f.line_rate r.rates.current value) r).rates.current

-- An accepted frame keeps it so.
abbrev pub SendingKeeps : Rule → Figures → ℕ → Type 0
SendingKeeps rule f length = (l : Limiter) → Within rule f l → Within rule f (sent rule f length l)

-- What a limiter earns in a microsecond, its current rate at the beginning, and in so many.
abbrev pub current_of : Limiter → ℕ
current_of Free = 0
current_of (InService r) = r.rates.current

abbrev pub credit_of : Limiter → ℕ
credit_of Free = 0
credit_of (InService r) = r.credit

unfoldable pub earnings : Rule → Figures → ℕ → Limiter → ℕ
earnings rule f zero l = 0
earnings rule f (suc n) l = current_of l + earnings rule f n (tick rule f l)

-- A wait keeps a limiter within bounds, and adds to its credit no more than it earns.
pub record WaitingKeeps (rule : Rule) (f : Figures) (n : ℕ) : Type 0 where
  pub keeps : (l : Limiter) → Within rule f l → Within rule f (micros rule f n l)
  pub pays : (l : Limiter) → credit_of (micros rule f n l) ≤ credit_of l + earnings rule f n l
