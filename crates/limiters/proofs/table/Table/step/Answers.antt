use Rattle.std.proofs.Common.{sym, refl, arith}
use Rattle.std.proofs.lemmas.List.{set_past}
use Rattle.limiters.proofs.table.Table.step.Goals as goal

-- past the last slot nothing is set
pub returns-else-slot-lt-SLOTS : goal.returns-else-slot-lt-SLOTS
returns-else-slot-lt-SLOTS c = record { slots = sym (set_past c.args.self.now.slots c.args.slot _ (omega (arith, c.args.self.now.long))); cursor = refl }
