use Rattle.std.proofs.Common.{ltb, rules}
use Rattle.std.proofs.lemmas.List.Sorted.{IsPartitionPoint-from_clause, IsPartitionedBy-ltb}
use Rattle.rungs.proofs.RungTable.{is_table, table_rises, parted_at}
use Rattle.rungs.proofs.looking.count_below.Goals as goal

pub returns : goal.returns
returns c =
    let xs = c.rungs.result.now in
    let table = is_table xs c.rungs.ensures.answer in
    let sorted = IsPartitionedBy-ltb (λ r. r) xs c.args.rate (table_rises xs table) in
    let point = IsPartitionPoint-from_clause (λ r. ltb r c.args.rate) xs _ c.partition_point.ensures.partitioned sorted (λ a r q k. search rules) in
    record { answer = parted_at xs table _ _ c.partition_point.ensures.bound point }
