-- Sampling by bytes.
use Rattle.std.specs.Prelude.{ℕ, ◌/◌, Bool, [], ◌∷◌, nat_lt, slice_index}
use Rattle.settings.specs.declared.accepted.Settings.{Settings}
use Rattle.notifiers.specs.declared.bytes.ByBytes.{ByBytes}
use Rattle.notifiers.specs.declared.sampler.Sampler.{Sampler}
use Rattle.notifiers.specs.declared.shown.Shown.{Shown}
use Rattle.notifiers.specs.Meter.{Meter}
use Rattle.notifiers.specs.Sampler.{new_sampler, sampler_meter, sampler_samples, sampler_next}

-- The bytes between samples, by the eighth that the severity is in.
abbrev pub period : ℕ → ℕ
period severity = slice_index (150000 ∷ 75000 ∷ 50000 ∷ 37500 ∷ 30000 ∷ 25000 ∷ 21500 ∷ 18500 ∷ []) (severity / 8)

abbrev pub byte_gap : ℕ
byte_gap = 152000

-- Nothing is counted but the bytes.
abbrev pub first_bytes : ByBytes
first_bytes = record {}

abbrev pub byte_spacing : ByBytes → Bool → ByBytes
byte_spacing x sample = x

-- It samples when the bytes since the last sample are above the period.
abbrev pub byte_due : ByBytes → ℕ → ℕ → ℕ → Bool
byte_due x severity since length = nat_lt (period severity) since

abbrev pub new_bytes : Settings → Sampler ByBytes
new_bytes = new_sampler first_bytes

abbrev pub byte_meter : Sampler ByBytes → Meter
byte_meter = sampler_meter byte_gap

abbrev pub byte_samples : Sampler ByBytes → Shown → Bool
byte_samples = sampler_samples byte_due

abbrev pub byte_next : Sampler ByBytes → Shown → Sampler ByBytes
byte_next = sampler_next byte_due byte_spacing
