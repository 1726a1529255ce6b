-- A rule shows its laws where what it cuts and raises to does so inside the conditions.
use Rattle.std.specs.Prelude.{◌≡◌, ℕ, ◌≤◌, true, nat_le}
use Rattle.std.proofs.Common.{sym, subst, ⊎_elim, arith}
use Rattle.std.proofs.lemmas.Bool.{and_parts, and_from, leb-true, le-leb, cond-true, cond-false, cases_Bool, cases_lt}
use Rattle.settings.specs.Ranges.{slowest, fastest}
use Rattle.rates.specs.declared.rates.Rates.{Rates}
use Rattle.rates.specs.declared.rates.Stages.{Stages}
use Rattle.rates.specs.Rule.{Rule, Lawful, Falls, Rises, ruled, in_bounds, cuttable, raisable, largest_target}

pub record Bounded (floor line current : ℕ) : Type 0 where
  pub line_low : slowest ≤ line
  pub line_high : line ≤ fastest
  pub from_floor : floor ≤ current
  pub to_line : current ≤ line

bounded : (floor line current : ℕ) → in_bounds floor line current ≡ true → Bounded floor line current
bounded floor line current e =
    let p = and_parts _ _ e in
    let q = and_parts _ _ p.1 in
    let r = and_parts _ _ q.1 in
    record { line_low = leb-true _ _ p.0; line_high = leb-true _ _ q.0; from_floor = leb-true _ _ r.0; to_line = leb-true _ _ r.1 }

-- both rates are as a raise asks them to be
pub record Raisable (floor line : ℕ) (r : Rates) : Type 0 where
  pub in_line : Bounded floor line r.current
  pub ordered : r.current ≤ r.target
  pub target_ends : r.target ≤ largest_target

pub raisable_parts : (floor line : ℕ) (r : Rates) → raisable floor line r ≡ true → Raisable floor line r
raisable_parts floor line r e =
    let p = and_parts (in_bounds floor line r.current) _ e in
    let q = and_parts (nat_le r.current r.target) (nat_le r.target largest_target) p.1 in
    record { in_line = bounded floor line r.current p.0; ordered = leb-true _ _ q.0; target_ends = leb-true _ _ q.1 }

in_bounds_from : (floor line current : ℕ) → Bounded floor line current → in_bounds floor line current ≡ true
in_bounds_from floor line current b =
    and_from _ _ (le-leb _ _ b.line_low) (and_from _ _ (le-leb _ _ b.line_high) (and_from _ _ (le-leb _ _ b.from_floor) (le-leb _ _ b.to_line)))

pub raisable_from : (floor line : ℕ) (r : Rates) → Raisable floor line r → raisable floor line r ≡ true
raisable_from floor line r h = and_from _ _ (in_bounds_from floor line r.current h.in_line) (and_from _ _ (le-leb _ _ h.ordered) (le-leb _ _ h.target_ends))

-- rates that a lawful rule may raise can be raised again, however often it raised or cut them
module _ (rule : Rule) (laws : Lawful rule) (line : ℕ) where
  pub raised_again : (r : Rates) (s : Stages) → Raisable rule.floor line r → Raisable rule.floor line (rule.raise line r s)
  raised_again r s h =
      let up = laws.raises line r s (raisable_from rule.floor line r h) in
      let b = h.in_line in
      record {
        in_line = record { line_low = b.line_low; line_high = b.line_high; from_floor = omega arith; to_line = up.below_line };
        ordered = up.ordered;
        target_ends = up.target_ends;
      }

  -- the current rate after any notice: in bounds, and no higher
  pub record CutAgain (current after : ℕ) : Type 0 where
    pub in_line : Bounded rule.floor line after
    pub no_higher : after ≤ current

  pub cut_again : (current value : ℕ) → Bounded rule.floor line current → CutAgain current (rule.cut line current value)
  cut_again current value b =
      ⊎_elim
      (λ e.
      let down = laws.cuts line current value e in
      let no_higher : rule.cut line current value ≤ current =
      ⊎_elim (λ above. omega (arith, down.lower above)) (λ at. omega (arith, down.rests (omega arith))) (cases_lt rule.floor current) in
      record { in_line = record { line_low = b.line_low; line_high = b.line_high; from_floor = down.above_floor; to_line = omega arith }; no_higher = no_higher })
      (λ e.
      let same = laws.leaves_uncut line current value e in
      record { in_line = subst (Bounded rule.floor line) (sym same) b; no_higher = omega arith })
      (cases_Bool (cuttable rule.floor line current value))

module _ (floor : ℕ) (cut_to : ℕ → ℕ → ℕ) (raised_to : ℕ → Rates → Stages → Rates) where
  -- what the two functions show inside the conditions
  pub record Shown : Type 0 where
    pub floor_low : 10000 ≤ floor
    pub floor_high : floor ≤ 100000
    pub falls : (line current value : ℕ) → Bounded floor line current → 1 ≤ value → value ≤ 63 → Falls floor current (cut_to current value)
    pub rises : (line : ℕ) (r : Rates) (s : Stages) → Raisable floor line r → Rises line r (raised_to line r s)

  pub ruled_lawful : Shown → Lawful (ruled floor cut_to raised_to)
  ruled_lawful h = record {
    floor_low = h.floor_low;
    floor_high = h.floor_high;
    cuts = λ line c v e.
        let p = and_parts (in_bounds floor line c) _ e in
        let q = and_parts (nat_le 1 v) (nat_le v 63) p.1 in
        subst (Falls floor c) (sym (cond-true _ (cut_to c v) c e)) (h.falls line c v (bounded floor line c p.0) (leb-true _ _ q.0) (leb-true _ _ q.1));
    leaves_uncut = λ line c v e. cond-false _ (cut_to c v) c e;
    raises = λ line r s e. subst (Rises line r) (sym (cond-true _ (raised_to line r s) r e)) (h.rises line r s (raisable_parts floor line r e));
    leaves_unraised = λ line r s e. cond-false _ (raised_to line r s) r e;
  }
