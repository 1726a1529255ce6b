-- Digits that write no bytes are told so.
use Rattle.std.proofs.Common.{◌∙◌, sym}
use Rattle.fields.specs.Hexadecimals.{hex_of}
use Rattle.fields.proofs.Bytes.{none_from}
use Rattle.fields.proofs.hexadecimals.hex_bytes.Goals as goal

pub returns-then-not-are_hex : goal.returns-then-not-are_hex
returns-then-not-are_hex c = record { answer = none_from (hex_of c.args.digits.now) (sym c.are_hex.ensures.answer ∙ c.if-not-are_hex.true) }
