use Rattle.std.proofs.Common.{◌==◌, ◌+◌, ◌≤◌, length, sym, ap, ◌∙◌, arith, rules, tests}
use Rattle.std.proofs.lemmas.Iterator.{YieldsList-from_take}
use Rattle.std.proofs.lemmas.Iterator.Consumers.{YieldsList-turn, YieldsList-end}
use Rattle.std.proofs.lemmas.Iterator.Splits.{YieldsList-from_slice_split}
use Rattle.std.proofs.lemmas.List.{length_push}
use Rattle.fields.specs.Parts.{parts}
use Rattle.commands.specs.Columns.{before}
use Rattle.commands.proofs.Walks.{turn, moved, short, found, missed}
use Rattle.commands.proofs.columns.column_of.Goals as goal

pub overflow_add-column-in-loop-field : goal.overflow_add-column-in-loop-field
overflow_add-column-in-loop-field c =
    let line = c.args.line.now in
    let field = c.in-Some.field.now in
    let n = length c.loop-field.yielded in
    let here = turn line field c.args.place n (YieldsList-turn (YieldsList-from_take c.args.place (YieldsList-from_slice_split _ (λ b. b == 32) line (cc) (cc) (cc) (λ x r q k. search (rules, tests))) (cc)) c.loop-field.yielded _ c.loop-field.yielded_by _ _ c.in-Some.field c.in-Some.is c.next.ensures.steps) in
    let le : c.loop-field.column + (length field + 1) ≤ length line + 2 = omega (arith, moved line field n c.loop-field.column here c.loop-field.invariant, short line (n + 1)) in
    search rules

pub loop-field-preserved : goal.loop-field-preserved
loop-field-preserved c =
    let line = c.args.line.now in
    let field = c.in-Some.field.now in
    let n = length c.loop-field.yielded in
    let here = turn line field c.args.place n (YieldsList-turn (YieldsList-from_take c.args.place (YieldsList-from_slice_split _ (λ b. b == 32) line (cc) (cc) (cc) (λ x r q k. search (rules, tests))) (cc)) c.loop-field.yielded _ c.loop-field.yielded_by _ _ c.in-Some.field c.in-Some.is c.next.ensures.steps) in
    moved line field n c.loop-field.column here c.loop-field.invariant ∙ ap (λ k. 1 + before (parts 32 line) k) (sym (length_push c.loop-field.yielded c.in-Some.field))

pub returns-then-column-line : goal.returns-then-column-line
returns-then-column-line c =
    let line = c.args.line.now in
    let all = YieldsList-end (YieldsList-from_take c.args.place (YieldsList-from_slice_split _ (λ b. b == 32) line (cc) (cc) (cc) (λ x r q k. search (rules, tests))) (cc)) c.loop-field.yielded _ c.loop-field.yielded_by _ _ c.in-None.is c.next.ensures.steps in
    let told = found line c.args.place (length c.loop-field.yielded) c.loop-field.column all.1 c.loop-field.invariant in
    search rules

pub returns-else-column-line : goal.returns-else-column-line
returns-else-column-line c =
    let line = c.args.line.now in
    let all = YieldsList-end (YieldsList-from_take c.args.place (YieldsList-from_slice_split _ (λ b. b == 32) line (cc) (cc) (cc) (λ x r q k. search (rules, tests))) (cc)) c.loop-field.yielded _ c.loop-field.yielded_by _ _ c.in-None.is c.next.ensures.steps in
    let told = missed line c.args.place (length c.loop-field.yielded) c.loop-field.column all.1 c.loop-field.invariant in
    search rules
