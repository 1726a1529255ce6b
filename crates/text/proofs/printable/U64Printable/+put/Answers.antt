use Rattle.std.proofs.Common.{arith}
use Rattle.std.proofs.lemmas.Fmt.{decimal_digit, decimal_step}
use Rattle.std.proofs.lemmas.Grind.{common_steps}
use Rattle.text.proofs.Pasting.{then_pasted}
use Rattle.text.proofs.printable.U64Printable.+put.Goals as goal

pub put-requires : goal.put-requires
put-requires t c = grind (arith, common_steps, decimal_digit c.args.self.now (omega arith))

pub returns-then-n-lt-BASE : goal.returns-then-n-lt-BASE
returns-then-n-lt-BASE t c = grind (arith, common_steps, decimal_digit c.args.self.now (omega arith))

pub put-last-requires : goal.put-last-requires
put-last-requires t c = grind (arith, common_steps, decimal_step c.args.self.now (omega arith) (omega arith))

pub put-requires-2 : goal.put-requires-2
put-requires-2 t c = grind (arith, common_steps, decimal_step c.args.self.now (omega arith) (omega arith))

pub returns-clause-answer : goal.returns-clause-answer
returns-clause-answer t c = grind (arith, common_steps, decimal_step c.args.self.now (omega arith) (omega arith))

pub returns-clause-after : goal.returns-clause-after
returns-clause-after t c =
    let d = c.digit-2.ensures.answer in
    then_pasted _ _ _ _ _ _ _ _ c.requires (rw d (decimal_step c.args.self.now (omega arith) (omega arith)))
    c.put-last.ensures.answer c.put-last.ensures.after c.put-2.ensures.after
