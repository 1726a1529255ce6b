use Rattle.record.proofs.Inverse.{encoded_fields}
use Rattle.record.proofs.reading.fields_of.Goals as goal
use Rattle.std.proofs.Common.{rules}

-- The fields of such bytes write the bytes again.
pub returns : goal.returns
returns c =
    let again = encoded_fields c.args.bytes.now (λ i. (c.type_inv.bytes i).fits) c.requires.long c.requires.count c.requires.first in
    record { answer = search rules; law = simp (c.station_of.ensures.answer, c.flow_of.ensures.answer) again }
