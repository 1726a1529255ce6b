use Rattle.std.proofs.Common.{◌<◌, rules}
use Rattle.fields.proofs.Weights.{digit_read, no_digit, all_read, place_more}
use Rattle.fields.proofs.decimals.number.Goals as goal

pub returns-in_err-decimal_digit : goal.returns-in_err-decimal_digit
returns-in_err-decimal_digit c = search (rules, no_digit)

pub loop-c-preserved : goal.loop-c-preserved
loop-c-preserved c =
    let small : c.from.result < 10 = search rules in
    (place_more _ _ _ c.loop-c.invariant.0 small, search (rules, digit_read))

pub returns : goal.returns
returns c = search (rules, all_read)
