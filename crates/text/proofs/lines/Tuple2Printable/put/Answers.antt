use Rattle.std.proofs.Common.{refl}
use Rattle.text.proofs.Pasting.{then_pasted}
use Rattle.text.proofs.lines.Tuple2Printable.put.Goals as goal

pub returns-clause-after : goal.returns-clause-after
returns-clause-after g c =
    then_pasted _ _ _ _ _ _ _ _ c.requires refl c.put-end.ensures.answer c.put-end.ensures.after c.put.ensures.after
