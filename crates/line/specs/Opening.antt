-- Opening a line.
use Rattle.std.specs.Prelude.{◌≡◌, ℕ, Bool, cond, ◌&&◌, List, length, replicate, Some, None, Ok, Err, Option, Result, ◌==◌, nat_le}
use Rattle.settings.specs.declared.accepted.Settings.{Settings}
use Rattle.rates.specs.declared.regime.Regime.{Regime}
use Rattle.rates.specs.declared.rate_rule.RateRule.{Ghosts as RuleGhosts}
use Rattle.notifiers.specs.Meter.{Meter}
use Rattle.notifiers.specs.declared.notifier.Notifier.{Ghosts as NotifierGhosts}
use Rattle.ring.specs.Standing.{fresh}
use Rattle.limiters.specs.declared.limiter.Limiter.TheVariants.{Free}
use Rattle.tally.specs.Tally.{Constants, opened}
use Rattle.tally.specs.declared.fault.OpenFault.{OpenFault}
use Rattle.tally.specs.declared.fault.OpenFault.TheVariants.{Notifier, Memory}
use Rattle.tally.specs.declared.frame.Frame.{Frame}
use Rattle.tally.specs.declared.notice.Notice.{Notice}
use Rattle.line.specs.declared.uplink.Line.{Line}
use Rattle.line.specs.declared.uplink.NotOpened.{NotOpened}
use Rattle.line.specs.Holds.{Holds}
use Rattle.line.specs.State.{State, state}

-- From 1 to 256 frame places, from 1 to 32 wire places.
abbrev pub in_limits : ℕ → ℕ → Bool
in_limits frames wire = (nat_le 1 frames && nat_le frames 256) && (nat_le 1 wire && nat_le wire 32)

-- The notifier's set point and weight are those of the settings.
abbrev pub matching : Settings → Meter → Bool
matching set m = m.set_point == set.figures.set_point && m.weight == set.figures.weight

-- Why a line is not opened, the first that fits.
abbrev pub open_refusal : Settings → Meter → ℕ → ℕ → Option OpenFault
open_refusal set m frames wire = cond (matching set m) (cond (in_limits frames wire) None (Some Memory)) (Some Notifier)

-- A refusal gives everything back.
abbrev pub returned : {R N : Type 0} → Regime R → N → OpenFault → NotOpened R N
returned regime notifier e = record { fault = e; regime = regime; notifier = notifier }

-- Why there is no line, if there is none.
abbrev pub refusal_in : {R N : Type 0} → Result (Line R N) (NotOpened R N) → Option OpenFault
refusal_in (Ok l) = None
refusal_in (Err e) = Some e.fault

module _ {R N : Type 0} (regime : Regime R) (notifier : N) (frames : List Frame) (wire : List Notice) where
  -- A new line: 64 free limiters, cursor 0, nothing waiting; it fixes the sizes of both memories.
  abbrev pub new_state : State R N
  new_state = record {
    regime = regime;
    notifier = notifier;
    slots = replicate 64 Free;
    cursor = 0;
    frame_ring = fresh (length frames);
    frames = frames;
    wire_ring = fresh (length wire);
    wire = wire;
    pages = 0;
  }

  abbrev pub open_answer : Option OpenFault → Result (State R N) (NotOpened R N)
  open_answer None = Ok new_state
  open_answer (Some e) = Err (returned regime notifier e)

  -- An answer by what it holds.
  abbrev pub told_open : Result (Line R N) (NotOpened R N) → Result (State R N) (NotOpened R N)
  told_open (Ok l) = Ok (state l frames wire)
  told_open (Err e) = Err e

  -- What a line is opened with is fixed from then on.
  pub record Fixed (rr : RuleGhosts R) (nn : NotifierGhosts N) (K : Constants) : Type 0 where
    pub settings_fixed : K.settings ≡ regime.settings
    pub rule_fixed : K.rule ≡ rr.meaning regime.rule
    pub frames_fixed : K.frame_places ≡ length frames
    pub wire_fixed : K.wire_places ≡ length wire
    pub gap_fixed : K.gap ≡ (nn.meter notifier).gap
    pub withholds_fixed : K.withholds ≡ (nn.meter notifier).withholds

  -- A new line holds the tally of an opening.
  abbrev pub Opens : RuleGhosts R → NotifierGhosts N → Line R N → Type 0
  Opens rr nn l = (K : Constants) × Fixed rr nn K × Holds rr nn K (state l frames wire) (opened (nn.meter notifier).old)
