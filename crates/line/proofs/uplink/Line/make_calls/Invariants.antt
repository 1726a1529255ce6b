use Rattle.std.proofs.Common.{◌≡◌, map, take, drop}
use Rattle.tally.specs.Saying.{said}
use Rattle.line.specs.Serving.{Runs}
use Rattle.line.specs.State.{state}
use Rattle.line.proofs.uplink.Line.make_calls.Given as goal

-- the calls so far are a run, and the places to come are as they were
abbrev pub invariant-loop-place : goal.invariant-loop-place
invariant-loop-place g l =
    Runs g.R.RateRule g.N.Notifier (state l.initial.self l.initial.frames l.initial.wire) (map said (take l.place l.calls)) (take l.place l.answers) (state l.self l.frames l.wire)
    × (drop l.place l.answers ≡ drop l.place l.initial.answers)
