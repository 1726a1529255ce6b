use Rattle.std.proofs.Common.{◌≡◌, sym, ◌∙◌, subst}
use Rattle.rungs.specs.Rungs.{greatest_below, GreatestBelow}
use Rattle.rungs.proofs.RungSearch.{greatest_is}
use Rattle.rungs.proofs.RungTable.{is_table, last_is_greatest}
use Rattle.rungs.proofs.looking.greatest_under.Goals as goal

pub returns : goal.returns
returns c =
    let limit = c.args.limit in
    let table = is_table c.rungs.result.now c.rungs.ensures.answer in
    let found : c.copied.result ≡ greatest_below limit = c.copied.ensures ∙ c.last.ensures.value ∙ last_is_greatest _ table limit _ c.count_below.ensures.answer in
    record { answer = found; law = subst (GreatestBelow limit) (sym found) (greatest_is limit) }
