use Rattle.std.proofs.Common.{take, sym, ap, ◌∙◌, arith}
use Rattle.line.specs.Reading.{listed}
use Rattle.line.proofs.Listed.{row_none, row_more, row_all}
use Rattle.line.proofs.uplink.Line.listing.Goals as goal
use Rattle.line.proofs.uplink.Line.listing.Goals.{in-Some, in_default}

pub loop-slot-preserved : goal.loop-slot-preserved
loop-slot-preserved g c =
    let slots = c.slots-limiter-items.result.now in
    let slot = c.loop-slot.slot in
    let before = take c.loop-slot.listing.count c.loop-slot.listing.rows in
    elim c.match-serves.branch [
      | in-Some w ↦ (
        grind arith,
        grind (arith, row_more slots slot c.loop-slot-test.true before _ w.in-Some.serves (sym w.in-Some.is ∙ c.serves.ensures.answer) c.loop-slot.invariant.1),
      )
      | in_default w ↦ (
        grind arith,
        grind (arith, row_none slots slot c.loop-slot-test.true before _ (sym w.in_default.is ∙ c.serves.ensures.answer) c.loop-slot.invariant.1),
      )
    ]

pub returns : goal.returns
returns g c =
    let slots = c.slots-limiter-items.result.now in
    record { answer = row_all slots c.loop-slot.slot _ _ c.loop-slot-test.false c.loop-slot.invariant.1 ∙ ap (listed 0) c.slots-limiter-items.ensures.answer }
