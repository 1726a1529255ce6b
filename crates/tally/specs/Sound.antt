-- What every tally keeps that a run can reach.
use Rattle.std.specs.Prelude.{◌≡◌, ℕ, ◌<◌, ◌≤◌, length, slice_index_or}
use Rattle.std.specs.List.{AllByRecursion}
use Rattle.limiters.specs.Bounds.{Within}
use Rattle.limiters.specs.Pass.{held_of}
use Rattle.limiters.specs.Single.{Single}
use Rattle.limiters.specs.declared.limiter.Limiter.TheVariants.{Free}
use Rattle.tally.specs.declared.frame.Frame.{Frame}
use Rattle.tally.specs.declared.notice.Notice.{Notice}
use Rattle.tally.specs.Tally.{Constants, Tally}

-- A frame that was accepted, and a notice that was made.
pub record FrameKept (f : Frame) : Type 0 where
  pub not_long : f.length ≤ 2000
  pub mark_low : f.mark ≤ 63

pub record NoticeKept (n : Notice) : Type 0 where
  pub some_value : 1 ≤ n.value
  pub value_low : n.value ≤ 63

-- 64 limiters within bounds, each flow with one at most; frames and notices as they were made, and no more than there are places; the bytes since the last sample within the gap.
pub record Sound (K : Constants) (t : Tally) : Type 0 where
  pub long : length t.slots ≡ 64
  pub inside : t.cursor < 64
  pub within : (i : ℕ) → i < 64 → Within K.rule K.settings.figures (slice_index_or t.slots i Free)
  pub held_low : (i : ℕ) → i < 64 → held_of (slice_index_or t.slots i Free) ≤ 63
  pub single : Single t.slots
  pub frames_fit : length t.frames ≤ K.frame_places
  pub frames_kept : AllByRecursion FrameKept t.frames
  pub notices_fit : length t.notices ≤ K.wire_places
  pub notices_kept : AllByRecursion NoticeKept t.notices
  pub since_kept : t.since ≤ K.gap
