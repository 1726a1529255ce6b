-- A notifier that is chosen by a letter.
use Rattle.std.specs.Prelude.{ℕ, Bool, cond, Some, None, Option, ◌==◌}
use Rattle.settings.specs.declared.accepted.Settings.{Settings}
use Rattle.notifiers.specs.declared.chosen.ChosenNotifier.{ChosenNotifier}
use Rattle.notifiers.specs.declared.chosen.ChosenNotifier.TheVariants as chosen
use Rattle.notifiers.specs.declared.chosen.NotifierKind.{NotifierKind}
use Rattle.notifiers.specs.declared.chosen.NotifierKind.TheVariants as kind
use Rattle.notifiers.specs.declared.shown.Shown.{Shown}
use Rattle.notifiers.specs.Bytes.{new_bytes, byte_meter, byte_samples, byte_next}
use Rattle.notifiers.specs.Frames.{new_frames, frame_meter, frame_samples, frame_next}
use Rattle.notifiers.specs.Meter.{Meter}
use Rattle.notifiers.specs.Representative.{over, withheld}

-- b (98) samples by bytes, f (102) by frames; B (66) and F (70) do the same under the layer that withholds.
abbrev pub kind_of : ℕ → Option NotifierKind
kind_of letter =
    cond (letter == 98) (Some kind.Bytes)
    (cond (letter == 102) (Some kind.Frames)
    (cond (letter == 66) (Some kind.RepresentativeBytes) (cond (letter == 70) (Some kind.RepresentativeFrames) None)))

-- A new notifier of a kind.
abbrev pub chosen_new : NotifierKind → Settings → ChosenNotifier
chosen_new kind.Bytes set = chosen.Bytes (new_bytes set)
chosen_new kind.Frames set = chosen.Frames (new_frames set)
chosen_new kind.RepresentativeBytes set = chosen.RepresentativeBytes (over (new_bytes set))
chosen_new kind.RepresentativeFrames set = chosen.RepresentativeFrames (over (new_frames set))

-- A chosen notifier is the one in it: its meter, whether it samples a frame, and what it is after one.
abbrev pub chosen_meter : ChosenNotifier → Meter
chosen_meter (chosen.Bytes x) = byte_meter x
chosen_meter (chosen.Frames x) = frame_meter x
chosen_meter (chosen.RepresentativeBytes x) = withheld (byte_meter x.below)
chosen_meter (chosen.RepresentativeFrames x) = withheld (frame_meter x.below)

abbrev pub chosen_samples : ChosenNotifier → Shown → Bool
chosen_samples (chosen.Bytes x) s = byte_samples x s
chosen_samples (chosen.Frames x) s = frame_samples x s
chosen_samples (chosen.RepresentativeBytes x) s = byte_samples x.below s
chosen_samples (chosen.RepresentativeFrames x) s = frame_samples x.below s

abbrev pub chosen_next : ChosenNotifier → Shown → ChosenNotifier
chosen_next (chosen.Bytes x) s = chosen.Bytes (byte_next x s)
chosen_next (chosen.Frames x) s = chosen.Frames (frame_next x s)
chosen_next (chosen.RepresentativeBytes x) s = chosen.RepresentativeBytes (over (byte_next x.below s))
chosen_next (chosen.RepresentativeFrames x) s = chosen.RepresentativeFrames (over (frame_next x.below s))
