-- A line together with what both memories hold, as plain data.
use Rattle.std.specs.Prelude.{ℕ, Bool, ◌&&◌, List, length, ◌==◌}
use Rattle.rates.specs.declared.regime.Regime.{Regime}
use Rattle.ring.specs.Standing.{Standing, standing_of}
use Rattle.limiters.specs.declared.limiter.Limiter.{Limiter}
use Rattle.tally.specs.declared.frame.Frame.{Frame}
use Rattle.tally.specs.declared.notice.Notice.{Notice}
use Rattle.line.specs.declared.uplink.Line.{Line}

pub record State (R N : Type 0) : Type 0 where
  pub regime : Regime R
  pub notifier : N
  pub slots : List Limiter
  pub cursor : ℕ
  pub frame_ring : Standing
  pub frames : List Frame
  pub wire_ring : Standing
  pub wire : List Notice
  pub pages : ℕ

abbrev pub state : {R N : Type 0} → Line R N → List Frame → List Notice → State R N
state l frames wire = record {
  regime = l.regime;
  notifier = l.notifier;
  slots = l.table.slots;
  cursor = l.table.cursor;
  frame_ring = standing_of l.frames;
  frames = frames;
  wire_ring = standing_of l.wire;
  wire = wire;
  pages = l.pages;
}

-- Both memories are of the size that opening fixed.
abbrev pub sized : {R N : Type 0} → State R N → Bool
sized s = length s.frames == s.frame_ring.size && length s.wire == s.wire_ring.size

-- Some of it changed: the frames that wait and their pages, the notices that wait, the limiters.
abbrev pub with_frames : {R N : Type 0} → State R N → Standing → ℕ → State R N
with_frames s ring pages = record {
  regime = s.regime;
  notifier = s.notifier;
  slots = s.slots;
  cursor = s.cursor;
  frame_ring = ring;
  frames = s.frames;
  wire_ring = s.wire_ring;
  wire = s.wire;
  pages = pages;
}

abbrev pub with_limiters : {R N : Type 0} → State R N → List Limiter → ℕ → Standing → State R N
with_limiters s slots cursor ring = record {
  regime = s.regime;
  notifier = s.notifier;
  slots = slots;
  cursor = cursor;
  frame_ring = s.frame_ring;
  frames = s.frames;
  wire_ring = ring;
  wire = s.wire;
  pages = s.pages;
}
