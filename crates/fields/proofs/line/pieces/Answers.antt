use Rattle.std.proofs.Common.{◌==◌, ◌∙◌, rules, tests}
use Rattle.std.proofs.lemmas.Iterator.Consumers.{map_from_collect}
use Rattle.std.proofs.lemmas.Iterator.Splits.{YieldsList-from_slice_split}
use Rattle.std.proofs.lemmas.Result.{IfOk-weaker}
use Rattle.fields.proofs.Splits.{slice_split-parts}
use Rattle.fields.proofs.line.pieces.Goals as goal

pub returns : goal.returns
returns c =
    let text = c.args.text.now in
    let cut = map_from_collect c.collect.result c.collect.ensures.ran (YieldsList-from_slice_split _ (λ b. b == c.args.separator) text c.split.ensures.rest c.split.ensures.done c.split.ensures.closure (λ x r q k. search (rules, tests))) in
    record { answer = IfOk-weaker c.collect.result _ _ (λ v is. is ∙ slice_split-parts c.args.separator text) cut }
