use Rattle.std.proofs.Common.{◌≡◌, ◌++◌, drop, vec_items}
use Rattle.notifiers.specs.Runs.{answers, after_all}
use Rattle.notifiers.proofs.showing.show_all.Given as goal

-- the answers so far and those to come are all, and so is what becomes of the notifier
abbrev pub invariant-loop-frame : goal.invariant-loop-frame
invariant-loop-frame g l =
    let n = g.N.Notifier in
    record {
      answered : vec_items l.showings ++ answers n.meter n.samples n.next l.notifier (drop l.frame-index l.frames) ≡ answers n.meter n.samples n.next l.fn.notifier l.frames;
      becomes : after_all n.meter n.samples n.next l.notifier (drop l.frame-index l.frames) ≡ after_all n.meter n.samples n.next l.fn.notifier l.frames;
    }
