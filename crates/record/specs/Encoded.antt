-- The bytes of a feedback record, and what writing them into a buffer answers and leaves there. Assumes nothing.
use Rattle.std.specs.Prelude.{ℕ, cond, List, [], ◌∷◌, ◌++◌, length, drop, is_ok, Ok, Err, Result, nat_lt}
use Rattle.record.specs.Layout.{count_field, flow_field, counted, version, greatest, size, digits}
use Rattle.record.specs.declared.Record.{Record}
use Rattle.record.specs.declared.faults.WriteFault.{WriteFault}
use Rattle.record.specs.declared.faults.WriteFault.TheVariants.{Value, Room}

-- The fields one after the other, the two wide numbers as wide as the layout says and the rest as it is.
abbrev pub encoded : Record → List ℕ
encoded r = digits count_field.width counted ++ version ∷ (r.station ++ (digits flow_field.width r.flow ++ r.value ∷ []))

-- A value above 63 is refused first, then a buffer too short for a record; else the number of bytes written.
abbrev pub answered : Record → ℕ → Result ℕ WriteFault
answered r room = cond (nat_lt greatest r.value) (Err Value) (cond (nat_lt room size) (Err Room) (Ok size))

-- The record over the first bytes of the buffer and the rest as it was; all as it was on a refusal.
abbrev pub written : Record → List ℕ → List ℕ
written r out = cond (is_ok (answered r (length out))) (encoded r ++ drop size out) out
