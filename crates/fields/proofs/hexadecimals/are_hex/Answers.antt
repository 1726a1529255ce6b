use Rattle.std.proofs.Common.{◌∙◌, sym, is_some, ap, rules, tests}
use Rattle.std.proofs.lemmas.Iterator.{YieldsList-from_slice}
use Rattle.std.proofs.lemmas.Iterator.Search.{all_from_yields_List}
use Rattle.fields.specs.Hexadecimals.{hex_digit_of}
use Rattle.fields.proofs.Bytes.{even_hex, odd_hex}
use Rattle.fields.proofs.hexadecimals.are_hex.Goals as goal

pub returns-then-digits-eq0 : goal.returns-then-digits-eq0
returns-then-digits-eq0 c =
    let digits = c.args.digits.now in
    let all = all_from_yields_List (λ x. is_some (hex_digit_of x)) _ _ c.all.result c.all.ensures.ran (YieldsList-from_slice digits cc) (λ x b q k. search (rules, tests)) in
    record { answer = all ∙ sym (even_hex digits c.if-digits-eq0.true) }

pub returns-else-digits-eq0 : goal.returns-else-digits-eq0
returns-else-digits-eq0 c = let odd = ap is_some (odd_hex c.args.digits.now c.if-digits-eq0.false) in search rules
