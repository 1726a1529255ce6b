use Rattle.std.proofs.Common.{sym, ◌∙◌}
use Rattle.text.proofs.Turns.{one_too_many}
use Rattle.text.proofs.lines.EachBehindPrintable.left_after.Goals as goal

pub returns-in_err-left : goal.returns-in_err-left
returns-in_err-left g c = record {
  answer = c.from_residual.ensures
      ∙ sym (one_too_many _ _ _ _ _ _ c.loop-item-test.true c.item-item.is c.loop-item.invariant (sym c.in_err-left.ensures.answer));
}
