-- Sampling by frames.
use Rattle.std.specs.Prelude.{ℕ, ◌+◌, ◌*◌, ◌/◌, Bool, cond, ◌||◌, nat_le, nat_lt}
use Rattle.settings.specs.declared.accepted.Settings.{Settings}
use Rattle.notifiers.specs.declared.frames.ByFrames.{ByFrames}
use Rattle.notifiers.specs.declared.sampler.Sampler.{Sampler}
use Rattle.notifiers.specs.declared.shown.Shown.{Shown}
use Rattle.notifiers.specs.Meter.{Meter}
use Rattle.notifiers.specs.Sampler.{new_sampler, sampler_meter, sampler_samples, sampler_next}

abbrev pub frame_gap : ℕ
frame_gap = 200000

abbrev pub first_frames : ByFrames
first_frames = record { passed = 0 }

-- The frames since the last sample, after one more.
abbrev pub frame_spacing : ByFrames → Bool → ByFrames
frame_spacing x sample = record { passed = cond sample 0 (x.passed + 1) }

-- With so many frames, this one counted, a sample is due.
abbrev pub threshold : ℕ → ℕ
threshold severity = 6400 / (64 + 9 * severity)

-- It samples when that many frames have come since the last sample, this one counted, or where the bytes would pass the gap.
abbrev pub frame_due : ByFrames → ℕ → ℕ → ℕ → Bool
frame_due x severity since length = nat_le (threshold severity) (x.passed + 1) || nat_lt frame_gap (since + length)

abbrev pub new_frames : Settings → Sampler ByFrames
new_frames = new_sampler first_frames

abbrev pub frame_meter : Sampler ByFrames → Meter
frame_meter = sampler_meter frame_gap

abbrev pub frame_samples : Sampler ByFrames → Shown → Bool
frame_samples = sampler_samples frame_due

abbrev pub frame_next : Sampler ByFrames → Shown → Sampler ByFrames
frame_next = sampler_next frame_due frame_spacing
