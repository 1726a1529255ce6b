use Rattle.std.proofs.Common.{◌≡◌, ◌+◌, ◌∙◌, rules}
use Rattle.std.proofs.lemmas.Iterator.{YieldsList-from_slice}
use Rattle.std.proofs.lemmas.Iterator.Search.{position_from_yields_List}
use Rattle.std.specs.Option.{option_map}
use Rattle.limiters.specs.Table.{fits, part}
use Rattle.limiters.proofs.Finding.{first_found}
use Rattle.limiters.proofs.table.Table.first.Goals as goal

pub returns-clause-answer : goal.returns-clause-answer
returns-clause-answer c =
    let all = part c.args.from c.args.to c.args.self.now.slots in
    let found = position_from_yields_List (fits c.args.sought) _ _ _ c.position.ensures.ran (YieldsList-from_slice all c.iter.ensures.rest) (λ x b q called. search rules) in
    let mapped : c.map.result ≡ option_map (λ n. c.args.from + n) c.position.result = search rules in
    mapped ∙ first_found c.args.sought c.args.from all _ found
