use Rattle.std.proofs.Common.{◌++◌, arith}
use Rattle.text.proofs.Turns.{one_within, one_behind, one_pasted}
use Rattle.text.proofs.lines.EachBehindPrintable.put.Goals as goal

pub put-end-requires : goal.put-end-requires
put-end-requires g c =
    omega (arith, one_within (λ item. g.B.Printable.text c.args.self.now.0 ++ g.T.Printable.text item) c.args.self.now.1.now _ _ c.loop-item-test.true c.item-item.is)

pub loop-item-preserved : goal.loop-item-preserved
loop-item-preserved g c = record {
  place = one_behind _ _ _ _ _ _ _ c.loop-item-test.true c.item-item.is c.loop-item.invariant.place c.put-end.ensures.answer;
  put = one_pasted _ _ _ _ _ _ _ _ _ c.loop-item-test.true c.item-item.is c.requires c.loop-item.invariant.place c.loop-item.invariant.put c.put-end.ensures.after;
}
