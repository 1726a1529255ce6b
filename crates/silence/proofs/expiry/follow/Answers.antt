use Rattle.std.proofs.Common.{◌≡◌, suc, ◌+◌, ◌-◌, [], ◌∷◌, ◌++◌, is_ok, vec_items, sym, ap, ◌∙◌, subst, append_assoc, append-nil, arith}
use Rattle.std.proofs.ResultArms.{chosen}
use Rattle.silence.specs.Expiries.{bound, expiries, last, ClimbsBack}
use Rattle.silence.specs.Stands.{shown, next_stand, ServingWithin}
use Rattle.silence.proofs.Climbing.{expiries_end, expiries_more, expiries_none, last_push, climbs_back, step_within, step_soon}
use Rattle.silence.proofs.expiry.follow.Goals as goal
use Rattle.silence.proofs.expiry.follow.Goals.{else-loop-test, then-loop-test+then-end-line_rate}

pub loop-preserved : goal.loop-preserved
loop-preserved g c =
    let rule = g.R.RateRule.meaning c.args.regime.now.rule in
    let laws = g.met.R.RateRule.lawful c.args.regime.now.rule in
    let set = c.args.regime.now.settings in
    let f = set.figures in
    let rows = vec_items c.loop.rows in
    let row = c.shown-end-in-loop.result in
    let is = c.next-stand.ensures.answer in
    let row_is = c.shown-end-in-loop.ensures.answer ∙ ap shown is in
    let to_come = bound - (c.loop.counter + 1) in
    let left : bound - c.loop.counter ≡ suc to_come = omega arith in
    let below : (shown c.loop.stand).rates.current ≡ f.line_rate → ⊥ =
    λ e. c.if-end-line_rate.false (ap (λ x. x.rates.current) c.loop.invariant.2 ∙ e ∙ sym c.line_rate.ensures.answer) in
    let more = ap (λ n. expiries rule f n c.loop.stand) left ∙ expiries_more rule f to_come c.loop.stand below in
    let pushed = chosen _ _ _ _ c.push.ensures.items (ap is_ok c.in_ok-push.was) in
    let rest = expiries rule f to_come c.next-stand.result in
    let soon = step_soon rule f laws set.line_rate_in set.period_in c.loop.stand c.loop.invariant.5 in (
      ap (λ l. l ++ rest) pushed ∙ append_assoc rows (row ∷ []) rest ∙ ap (λ e. rows ++ (e ∷ rest)) row_is
          ∙ ap (λ s. rows ++ (shown (next_stand rule f c.loop.stand) ∷ expiries rule f to_come s)) is ∙ ap (λ l. rows ++ l) (sym more) ∙ c.loop.invariant.0,
      sym (ap (last (shown c.args.start)) pushed ∙ last_push _ rows row),
      c.shown-end-in-loop.ensures.answer,
      ap (λ s. s.number) is ∙ ap (λ n. n + 1) c.loop.invariant.3,
      omega (arith, ap (λ s. s.time) is, soon, set.period_in.1, c.loop.invariant.4),
      subst (λ s. ServingWithin rule f s.limiter) (sym is) (step_within rule f laws set.line_rate_in set.period_in c.loop.stand c.loop.invariant.5),
    )

pub returns : goal.returns
returns g c =
    let rule = g.R.RateRule.meaning c.args.regime.now.rule in
    let set = c.args.regime.now.settings in
    let left = expiries rule set.figures (bound - c.loop.counter) c.loop.stand in
    let done : left ≡ [] =
    elim c.loop-test.branch [
      | else-loop-test w ↦
          let over : bound - c.loop.counter ≡ 0 = omega arith in
          ap (λ n. expiries rule set.figures n c.loop.stand) over ∙ expiries_none rule set.figures c.loop.stand
      | then-loop-test+then-end-line_rate w ↦
          expiries_end rule set.figures (bound - c.loop.counter) c.loop.stand (sym (ap (λ x. x.rates.current) c.loop.invariant.2) ∙ w.if-end-line_rate.true ∙ w.line_rate.ensures.answer)
    ] in
    let all : vec_items c.loop.rows ≡ expiries rule set.figures bound c.args.start = sym (append-nil _) ∙ ap (λ l. vec_items c.loop.rows ++ l) (sym done) ∙ c.loop.invariant.0 in
    let law = climbs_back rule set.figures (g.met.R.RateRule.lawful c.args.regime.now.rule) set.line_rate_in set.period_in c.args.start (vec_items c.loop.rows) c.requires.within all in
    record {
      answer = record { start = c.shown.ensures.answer; rows = all; end = c.loop.invariant.1 };
      law = subst (λ s. ClimbsBack set.figures.line_rate s (vec_items c.loop.rows)) (sym c.shown.ensures.answer) law;
    }
