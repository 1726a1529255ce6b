-- What any notifier keeps over any frames.
use Rattle.std.proofs.Common.{◌≡◌, ℕ, ◌+◌, ◌<◌, ◌≤◌, Bool, true, false, List, [], ◌∷◌, refl, arith}
use Rattle.std.proofs.lemmas.Grind.{common_steps}
use Rattle.notifiers.specs.declared.shown.Shown.{Shown}
use Rattle.notifiers.specs.declared.shown.Showing.TheVariants.{Notice}
use Rattle.notifiers.specs.Meter.{Meter, lawful, severity_at, answered, moved}
use Rattle.notifiers.specs.Runs.{answers, Sampled, counted, GapKept, last_pages, Told, Above, AllAbove, Kept}
use Rattle.notifiers.specs.Severity.{severity}

module _ {N : Type 0} (meter : N → Meter) (samples : N → Shown → Bool) (next : N → Shown → N)
    (due : (x : N) (s : Shown) → lawful s ≡ true → (meter x).gap < (meter x).since + s.length → samples x s ≡ true)
    (moves : (x : N) (s : Shown) → meter (next x s) ≡ moved (meter x) s (samples x s))
    (alone : (x : N) (s : Shown) → lawful s ≡ false → next x s ≡ x) where
  -- the constants, and what is counted of the frames so far, at a notifier
  record Held (m : Meter) (since old : ℕ) (x : N) : Type 0 where
    gap_same : (meter x).gap ≡ m.gap
    point_same : (meter x).set_point ≡ m.set_point
    weight_same : (meter x).weight ≡ m.weight
    withholds_same : (meter x).withholds ≡ m.withholds
    old_same : (meter x).old ≡ old
    within : since ≤ m.gap
    behind : since ≤ (meter x).since

  -- one frame: what is counted then, and what its answer shows
  module _ (m : Meter) (since old : ℕ) (x : N) (s : Shown) (h : Held m since old x) where
    held : Held m (counted since s (answered (meter x) s (samples x s))) (last_pages old s (answered (meter x) s (samples x s))) (next x s)
    held = record {
      gap_same = grind (arith, common_steps, moves x s);
      point_same = grind (arith, common_steps, moves x s);
      weight_same = grind (arith, common_steps, moves x s);
      withholds_same = grind (arith, common_steps, moves x s);
      old_same = grind (arith, common_steps, moves x s);
      within = grind (arith, common_steps, due x s);
      behind = grind (arith, common_steps, moves x s, due x s);
    }

    same_severity : severity_at (meter x) s ≡ severity m.set_point m.weight s.pages old
    same_severity = grind (arith, common_steps)

    tells : Sampled (answered (meter x) s (samples x s)) → s.mark < severity m.set_point m.weight s.pages old → answered (meter x) s (samples x s) ≡ Notice (severity m.set_point m.weight s.pages old)
    tells made over = grind (arith, common_steps, same_severity)

    above : m.withholds ≡ true → Above s (answered (meter x) s (samples x s))
    above on = grind (arith, common_steps)

  gap_kept : (ss : List Shown) (m : Meter) (since old : ℕ) (x : N) → Held m since old x → GapKept m.gap since ss (answers meter samples next x ss)
  unfolding answers
  gap_kept [] m since old x h = h.within
  gap_kept (s ∷ ss) m since old x h = (h.within, gap_kept ss m _ _ (next x s) (held m since old x s h))

  told : (ss : List Shown) (m : Meter) (since old : ℕ) (x : N) → Held m since old x → Told m.set_point m.weight old ss (answers meter samples next x ss)
  unfolding answers
  told [] m since old x h = tt
  told (s ∷ ss) m since old x h = (tells m since old x s h, told ss m _ _ (next x s) (held m since old x s h))

  all_above : (ss : List Shown) (m : Meter) (since old : ℕ) (x : N) → Held m since old x → m.withholds ≡ true → AllAbove ss (answers meter samples next x ss)
  unfolding answers
  all_above [] m since old x h on = tt
  all_above (s ∷ ss) m since old x h on = (above m since old x s h on, all_above ss m _ _ (next x s) (held m since old x s h) on)

  pub kept : (x : N) (ss : List Shown) → Kept (meter x) ss (answers meter samples next x ss)
  kept x ss =
      let start : Held (meter x) 0 (meter x).old x =
      record { gap_same = refl; point_same = refl; weight_same = refl; withholds_same = refl; old_same = refl; within = omega arith; behind = omega arith } in
      record {
        gap_kept = gap_kept ss (meter x) 0 (meter x).old x start;
        told = told ss (meter x) 0 (meter x).old x start;
        above = λ on. all_above ss (meter x) 0 (meter x).old x start on;
      }
