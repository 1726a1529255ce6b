-- A notifier that samples as its spacing says.
use Rattle.std.specs.Prelude.{ℕ, ◌+◌, Bool, true, false, cond}
use Rattle.settings.specs.declared.accepted.Settings.{Settings}
use Rattle.notifiers.specs.declared.sampler.Sampler.{Sampler}
use Rattle.notifiers.specs.declared.shown.Shown.{Shown}
use Rattle.notifiers.specs.Meter.{Meter, lawful}
use Rattle.notifiers.specs.Severity.{severity}

-- A new one, by what its spacing is at first.
abbrev pub new_sampler : {S : Type 0} → S → Settings → Sampler S
new_sampler first set = record { settings = set; old = 0; since = 0; spacing = first }

-- Its meter has the gap of its spacing and does not withhold.
abbrev pub sampler_meter : {S : Type 0} → ℕ → Sampler S → Meter
sampler_meter gap x = record { set_point = x.settings.figures.set_point; weight = x.settings.figures.weight; gap = gap; withholds = false; old = x.old; since = x.since }

-- It samples a frame where its spacing is due at the frame's severity, the bytes since the last sample and the frame's length.
abbrev pub sampler_samples : {S : Type 0} → (S → ℕ → ℕ → ℕ → Bool) → Sampler S → Shown → Bool
sampler_samples due x s = due x.spacing (severity x.settings.figures.set_point x.settings.figures.weight s.pages x.old) x.since s.length

-- After a lawful frame: after a sample `old` is the pages and `since` 0; else `since` grows by the length.
abbrev pub sampler_next : {S : Type 0} → (S → ℕ → ℕ → ℕ → Bool) → (S → Bool → S) → Sampler S → Shown → Sampler S
sampler_next due after x s = cond (lawful s)
    (cond (sampler_samples due x s)
    (record { settings = x.settings; old = s.pages; since = 0; spacing = after x.spacing true })
    (record { settings = x.settings; old = x.old; since = x.since + s.length; spacing = after x.spacing false }))
    x
