use Rattle.std.proofs.Common.{◌≡◌, sym, ◌∙◌, subst}
use Rattle.rungs.specs.Rungs.{least_from, LeastFrom}
use Rattle.rungs.proofs.RungSearch.{least_is}
use Rattle.rungs.proofs.RungTable.{is_table, entry_is_least}
use Rattle.rungs.proofs.looking.least_from.Goals as goal

pub returns : goal.returns
returns c =
    let limit = c.args.limit in
    let table = is_table c.rungs.result.now c.rungs.ensures.answer in
    let found : c.copied.result ≡ least_from limit = c.copied.ensures ∙ entry_is_least _ table limit _ c.count_below.ensures.answer c.get.result c.get.ensures.lookup in
    record { answer = found; law = subst (LeastFrom limit) (sym found) (least_is limit) }
