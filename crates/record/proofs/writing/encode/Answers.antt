use Rattle.std.proofs.Common.{◌≡◌, ◌^◌, ◌<◌, length, ap, ◌∙◌, div-one, rules}
use Rattle.record.proofs.Inverse.{encoded_elements, decoded_encoded}
use Rattle.record.proofs.writing.encode.Goals as goal
use Rattle.record.specs.Decoded.{decoded}

-- The elements of the record's parts are `encoded`, of which reading gives the record.
pub returns : goal.returns
returns c =
    let given = c.args.record.now in
    let six : length given.station ≡ 6 = search rules in
    let fits : given.flow < 2 ^ 32 = search rules in
    let same = c.joined.ensures.answer ∙ encoded_elements given c.to_be_bytes-count.result c.to_be_bytes-flow.result c.to_be_bytes-count.ensures (simp div-one c.to_be_bytes-flow.ensures) six in
    record { answer = same; law = λ small. ap decoded same ∙ decoded_encoded given six fits small }
