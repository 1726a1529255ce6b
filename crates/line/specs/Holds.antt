-- A line, its notifier and both memories hold a tally.
use Rattle.std.specs.Prelude.{◌≡◌, ℕ, ◌-◌, ◌≤◌, Bool, length, Result}
use Rattle.rates.specs.declared.rate_rule.RateRule.{Ghosts as RuleGhosts}
use Rattle.notifiers.specs.declared.notifier.Notifier.{Ghosts as NotifierGhosts}
use Rattle.notifiers.specs.Meter.{Meter}
use Rattle.ring.specs.Held.{waiting}
use Rattle.ring.specs.Standing.{Standing}
use Rattle.tally.specs.Runs.{Open}
use Rattle.tally.specs.Sound.{Sound}
use Rattle.tally.specs.Steps.{Asked, answer_to, tally_after}
use Rattle.tally.specs.Tally.{Constants, Tally, pages_waiting}
use Rattle.tally.specs.declared.call.Answer.{Answer}
use Rattle.tally.specs.declared.fault.CallFault.{CallFault}
use Rattle.line.specs.State.{State}

-- A ring of so many places stands within a memory of as many.
pub record Stands (ring : Standing) (memory places : ℕ) : Type 0 where
  pub ring_sized : ring.size ≡ places
  pub memory_sized : memory ≡ places
  pub head_in : ring.head ≤ ring.size - 1
  pub count_in : ring.count ≤ ring.size

-- A notifier means what the tally says: its constants, its old, and no fewer bytes since its last sample.
pub record Means (K : Constants) (m : Meter) (t : Tally) : Type 0 where
  pub set_point_same : m.set_point ≡ K.settings.figures.set_point
  pub weight_same : m.weight ≡ K.settings.figures.weight
  pub gap_same : m.gap ≡ K.gap
  pub withholds_same : m.withholds ≡ K.withholds
  pub old_same : m.old ≡ t.old
  pub since_behind : t.since ≤ m.since

module _ {R N : Type 0} (rr : RuleGhosts R) (nn : NotifierGhosts N) where
  pub record Holds (K : Constants) (s : State R N) (t : Tally) : Type 0 where
    pub settings_same : s.regime.settings ≡ K.settings
    pub rule_same : rr.meaning s.regime.rule ≡ K.rule
    pub slots_same : s.slots ≡ t.slots
    pub cursor_same : s.cursor ≡ t.cursor
    pub frames_stand : Stands s.frame_ring (length s.frames) K.frame_places
    pub frames_same : waiting s.frame_ring s.frames ≡ t.frames
    pub wire_stands : Stands s.wire_ring (length s.wire) K.wire_places
    pub notices_same : waiting s.wire_ring s.wire ≡ t.notices
    pub pages_same : s.pages ≡ pages_waiting t.frames
    pub means : Means K (nn.meter s.notifier) t
    pub sound : Sound K t

  -- Whatever tally was held before a call: the answer is the tally's, only the choice to sample being the notifier's, and the tally that it moves to is held after.
  abbrev pub Follows : State R N → Asked → Result Answer CallFault → State R N → Type 0
  Follows before asked answer after =
      (K : Constants) (t : Tally) → Holds K before t
      → (sampled : Bool) × Open K t asked sampled × (answer ≡ answer_to K t asked sampled) × Holds K after (tally_after K t asked sampled)
