-- What a line holds, apart from how.
use Rattle.std.specs.Prelude.{ℕ, ◌+◌, ◌/◌, ◌≤◌, Bool, List, [], replicate, sum_by}
use Rattle.settings.specs.declared.accepted.Settings.{Settings}
use Rattle.rates.specs.Rule.{Rule, Lawful}
use Rattle.limiters.specs.declared.limiter.Limiter.{Limiter}
use Rattle.limiters.specs.declared.limiter.Limiter.TheVariants.{Free}
use Rattle.tally.specs.declared.frame.Frame.{Frame}
use Rattle.tally.specs.declared.notice.Notice.{Notice}

-- What never changes: accepted settings, a lawful rule, how many frames and notices can wait, the notifier's gap, and whether it withholds.
pub record Constants : Type 0 where
  pub settings : Settings
  pub rule : Rule
  pub lawful : Lawful rule
  pub frame_places : ℕ
  pub few_frames : frame_places ≤ 256
  pub wire_places : ℕ
  pub few_notices : wire_places ≤ 32
  pub gap : ℕ
  pub withholds : Bool

-- The limiters and the cursor, the frames and the notices that wait, oldest first, the pages at the last sample, and the bytes accepted since then or since opening.
pub record Tally : Type 0 where
  pub slots : List Limiter
  pub cursor : ℕ
  pub frames : List Frame
  pub notices : List Notice
  pub old : ℕ
  pub since : ℕ

-- At opening: 64 free limiters, cursor 0, nothing waiting, and the notifier's old.
abbrev pub opened : ℕ → Tally
opened old = record { slots = replicate 64 Free; cursor = 0; frames = []; notices = []; old = old; since = 0 }

-- The pages of 256 bytes that a frame takes, rounded up.
abbrev pub pages : ℕ → ℕ
pages length = (length + 255) / 256

-- The pages that frames take together.
abbrev pub pages_waiting : List Frame → ℕ
pages_waiting frames = sum_by (λ f. pages f.length) frames
