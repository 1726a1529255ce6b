-- Every event keeps a limiter within bounds.
use Rattle.std.proofs.Common.{◌≡◌, ℕ, zero, suc, ◌+◌, ◌≤◌, true, eqb, arith}
use Rattle.std.proofs.lemmas.Bool.{cond_both}
use Rattle.std.proofs.lemmas.Grind.{common_steps}
use Rattle.settings.specs.Ranges.{In}
use Rattle.settings.specs.declared.figures.Figures.{Figures}
use Rattle.settings.specs.declared.fault.SettingsFault.TheVariants.{LineRate, Period}
use Rattle.rates.specs.Rule.{Rule, Lawful, raisable}
use Rattle.rates.specs.declared.rates.Stages.{Stages}
use Rattle.rates.specs.Conditions.{Raisable, raisable_parts, raisable_from, raised_again, cut_again}
use Rattle.limiters.specs.declared.limiter.Identity.{Identity}
use Rattle.limiters.specs.declared.limiter.Limiter.{Limiter}
use Rattle.limiters.specs.declared.limiter.Limiter.TheVariants.{Free, InService}
use Rattle.limiters.specs.declared.limiter.Row.{Row}
use Rattle.limiters.specs.Act.{heard, taken, byte_raised}
use Rattle.limiters.specs.Bounds.{InBounds, Within, HearingKeeps, SendingKeeps, WaitingKeeps, current_of, credit_of, earnings}
use Rattle.limiters.specs.Step.{risen, fresh, noticed, charged, run}
use Rattle.limiters.specs.Wait.{tick, micros}

module _ (rule : Rule) (laws : Lawful rule) (f : Figures) (period : In Period f) where
  ready_parts : (r : Row) → InBounds rule f r → Raisable rule.floor f.line_rate r.rates
  ready_parts r h = raisable_parts rule.floor f.line_rate r.rates h.ready

  -- what the rule raises to can be raised again
  raised_ready : (r : Row) (s : Stages) → InBounds rule f r → raisable rule.floor f.line_rate (rule.raise f.line_rate r.rates s) ≡ true
  raised_ready r s h = raisable_from rule.floor f.line_rate _ (raised_again rule laws f.line_rate r.rates s (ready_parts r h))

  pub noticed_within : (v : ℕ) (r : Row) → InBounds rule f r → InBounds rule f (noticed f v (rule.cut f.line_rate r.rates.current v) r)
  noticed_within v r h =
      let before = ready_parts r h in
      let after = cut_again rule laws f.line_rate r.rates.current v before.in_line in
      record {
        ready = raisable_from rule.floor f.line_rate _ (record { in_line = after.in_line; ordered = grind (arith, common_steps, after.no_higher, before.ordered); target_ends = grind (arith, common_steps, before.ordered, before.target_ends) });
        credit_full = h.credit_full;
        time_some = omega (arith, period.0);
        time_most = omega arith;
      }

  -- a limiter that is taken is within bounds
  pub fresh_within : In LineRate f → (who : Identity) → InBounds rule f (fresh f who)
  fresh_within line who = record {
    ready = raisable_from rule.floor f.line_rate _ (record {
      in_line = record { line_low = line.0; line_high = line.1; from_floor = omega (arith, laws.floor_high, line.0); to_line = omega arith };
      ordered = omega arith;
      target_ends = omega (arith, line.1);
    });
    credit_full = omega arith;
    time_some = omega (arith, period.0);
    time_most = omega arith;
  }

  takes : In LineRate f → (who : Identity) (l : Limiter) → Within rule f l → Within rule f (taken f who l)
  takes line who Free h = fresh_within line who
  takes line who (InService r) h = h

  pub hearing : In LineRate f → (v : ℕ) → HearingKeeps rule f v
  hearing line v = record { takes = takes line; keeps = keeps; lowers = λ r can. laws.cuts f.line_rate r.rates.current v can } where
    keeps : (l : Limiter) → Within rule f l → Within rule f (heard rule f v l)
    keeps Free h = tt
    keeps (InService r) h = cond_both (eqb v 0) (InService r) _ (Within rule f) (λ _. h) (λ _. noticed_within v r h)

  pub sending : (length : ℕ) → SendingKeeps rule f length
  sending length Free h = tt
  sending length (InService r) h =
      cond_both (eqb r.rates.current f.line_rate) Free (InService (charged f length (byte_raised rule f r) r)) (Within rule f) (λ _. tt)
      (λ _. record { ready = grind (arith, common_steps, raised_ready r (record { byte = risen r.stages.byte; timer = r.stages.timer }) h, h.ready); credit_full = grind (arith, common_steps, h.credit_full); time_some = grind (arith, common_steps, h.time_some); time_most = grind (arith, common_steps, h.time_most) })

  runs : (stage : ℕ) → (1 ≤ run f stage) × (run f stage ≤ f.period)
  runs stage = (grind (arith, common_steps, period.0), grind (arith, common_steps))

  ticks : (l : Limiter) → Within rule f l → Within rule f (tick rule f l)
  ticks Free h = tt
  ticks (InService r) h =
      let again = runs (risen r.stages.timer) in
      record { ready = grind (arith, common_steps, raised_ready r (record { byte = r.stages.byte; timer = risen r.stages.timer }) h, h.ready); credit_full = grind (arith, common_steps); time_some = grind (arith, common_steps, again.0); time_most = grind (arith, common_steps, again.1, h.time_most) }

  waits : (n : ℕ) (l : Limiter) → Within rule f l → Within rule f (micros rule f n l)
  unfolding micros
  waits zero l h = h
  waits (suc n) l h = waits n (tick rule f l) (ticks l h)

  -- one microsecond adds no more than the current rate at its beginning
  tick_pays : (l : Limiter) → credit_of (tick rule f l) ≤ credit_of l + current_of l
  tick_pays Free = omega arith
  tick_pays (InService r) = grind (arith, common_steps)

  pays : (n : ℕ) (l : Limiter) → credit_of (micros rule f n l) ≤ credit_of l + earnings rule f n l
  unfolding micros earnings
  pays zero l = omega arith
  pays (suc n) l = let first = tick_pays l in let rest = pays n (tick rule f l) in omega arith

  pub waiting : (n : ℕ) → WaitingKeeps rule f n
  waiting n = record { keeps = waits n; pays = pays n }
