use Rattle.std.proofs.Common.{◌≤◌, length, vec_items, sym, rules}
use Rattle.fields.proofs.Bytes.{pair_read, shorter}
use Rattle.fields.proofs.hexadecimals.read_pairs.Goals as goal

pub loop-left-preserved : goal.loop-left-preserved
loop-left-preserved c =
    let two : 2 ≤ length c.loop-left.left.now = search rules in (
      pair_read (vec_items c.loop-left.bytes) (vec_items c.push.new.self) c.in-Some.byte c.loop-left.left.now _
          c.loop-left.invariant.0 c.in_ok-push.ensures.items two (sym c.in-Some.ensures.answer),
      shorter c.loop-left.left.now _ c.loop-left.invariant.1,
    )
