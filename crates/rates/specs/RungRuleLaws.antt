-- The rung rule shows what every rule shows.
use Rattle.std.specs.Prelude.{◌≡◌, ℕ, suc, ◌+◌, ◌/◌, ◌<◌, ◌≤◌, max, Some, None, Option, ◌==◌, nat_lt, refl}
use Rattle.std.proofs.Common.{sym, subst, ⊎_elim, arith}
use Rattle.std.proofs.lemmas.Bool.{cond_both, cases_lt, eqb-true, ltb-true, ltb-false}
use Rattle.std.specs.Option.{unwrap_or}
use Rattle.settings.specs.Ranges.{In}
use Rattle.settings.specs.declared.figures.Figures.{Figures}
use Rattle.settings.specs.declared.fault.SettingsFault.TheVariants.{Gain}
use Rattle.rates.specs.declared.rates.Rates.{Rates}
use Rattle.rates.specs.declared.rates.Stages.{Stages}
use Rattle.rates.specs.Rule.{Falls, Rises, Lawful}
use Rattle.rungs.specs.Rungs.{rung, count, IsRung, GreatestBelow, LeastFrom, greatest_below, least_from}
use Rattle.rates.specs.RungRule.{rung_floor, rung_cut, rung_cut_to, rung_current, rung_raised_to, by_rungs}
use Rattle.rates.specs.Standard.{reduced, raised_to}
use Rattle.rates.specs.Conditions.{ruled_lawful}
use Rattle.rungs.proofs.RungLaws.{next_above, next_twice, rising_to}
use Rattle.rungs.proofs.RungSearch.{greatest_is, least_is}
use Rattle.rates.specs.StandardLaws.{reduced_half, reduced_lower, raise_rises}

lowest : rung 0 ≡ 10048
unfolding rung
lowest = refl

highest : rung 639 ≡ 10208768
unfolding rung
highest = refl

above_floor : (r : ℕ) → IsRung r → rung_floor ≤ r
above_floor r is = omega (arith, lowest, rising_to 0 is.0 (omega arith) is.1, is.2)

-- the greatest rung below a rate above the floor: a rung, below it, and at least half of it
pub record StepsDown (current r : ℕ) : Type 0 where
  pub from_floor : rung_floor ≤ r
  pub lower : r < current
  pub half : current / 2 ≤ r

-- the next rung is not below the rate, and at most twice this one
half_of : (current k : ℕ) → k < count → current ≤ 10000000 → rung k < current → ((j : ℕ) → j < count → rung j < current → rung j ≤ rung k) → current / 2 ≤ rung k
half_of current k inside small low most =
    ⊎_elim
    (λ more.
    let twice = next_twice k more in
    let up = next_above k more in
    ⊎_elim (λ under. absurd (omega (arith, most (suc k) more under))) (λ over. omega arith) (cases_lt (rung (suc k)) current))
    (λ last. let same : k ≡ 639 = omega arith in absurd (omega (arith, highest, subst (λ j. rung j < current) same low)))
    (cases_lt (suc k) count)

steps_down : (current : ℕ) → rung_floor < current → current ≤ 10000000 → (o : Option ℕ) → GreatestBelow current o → StepsDown current (unwrap_or o current)
steps_down current above small None all = absurd (omega (arith, lowest, all 0 (omega arith)))
steps_down current above small (Some r) (is, low, most) =
    record {
      from_floor = above_floor r is;
      lower = low;
      half = subst (λ x. current / 2 ≤ x) is.2 (half_of current is.0 is.1 small (subst (λ x. x < current) (sym is.2) low) (λ j inside under. subst (λ x. rung j ≤ x) (sym is.2) (most j inside under)));
    }

keeps : (current kept : ℕ) → rung_floor ≤ current → kept ≤ 10000000 → (o : Option ℕ) → LeastFrom kept o → (rung_floor ≤ unwrap_or o current) × (kept ≤ unwrap_or o current)
keeps current kept above small None all = absurd (omega (arith, highest, all 639 (omega arith)))
keeps current kept above small (Some r) (is, high, least) = (above_floor r is, high)

module _ (f : Figures) (gain : In Gain f) (value : ℕ) (low : 1 ≤ value) (current : ℕ) (small : current ≤ 10000000) where
  rung_falls : rung_floor < current → Falls rung_floor current (rung_cut f current value)
  rung_falls above =
      let half = reduced_half f gain value low current in
      let less = reduced_lower f gain value low current (omega arith) in
      let down = steps_down current above small (greatest_below current) (greatest_is current) in
      let kept = keeps current (reduced f current value) (omega arith) (omega arith) (least_from (reduced f current value)) (least_is (reduced f current value)) in
      record {
        above_floor = omega (arith, down.from_floor, kept.0);
        at_least_half = omega (arith, down.half, kept.1);
        lower = λ _. omega (arith, down.lower);
        rests = λ at. absurd (omega arith);
      }

  floor_rests : current ≤ rung_floor → rung_floor ≤ current → Falls rung_floor current current
  floor_rests under from = record { above_floor = from; at_least_half = omega arith; lower = λ h. absurd (omega arith); rests = λ e. e }

  cut_falls : rung_floor ≤ current → Falls rung_floor current (rung_cut_to f current value)
  cut_falls from =
      cond_both (nat_lt rung_floor current) (rung_cut f current value) current (Falls rung_floor current)
      (λ e. rung_falls (ltb-true _ _ e))
      (λ e. floor_rests (ltb-false _ _ e) from)

-- a rung for the standard rule's rate lies between the rate before and that one
between : (current standard : ℕ) → current ≤ standard → (o : Option ℕ) → GreatestBelow (standard + 1) o → (current ≤ max (unwrap_or o current) current) × (max (unwrap_or o current) current ≤ standard)
between current standard up None all = (omega arith, omega arith)
between current standard up (Some r) (is, low, most) = (omega arith, omega arith)

current_rises : (line current standard : ℕ) → current ≤ standard → standard ≤ line → (current ≤ rung_current line current standard) × (rung_current line current standard ≤ standard)
current_rises line current standard up below =
    cond_both (standard == line) line _ (λ c. (current ≤ c) × (c ≤ standard))
    (λ e. let same = eqb-true _ _ e in (omega arith, omega arith))
    (λ _. between current standard up (greatest_below (standard + 1)) (greatest_is (standard + 1)))

rung_rises : (f : Figures) (line : ℕ) (r : Rates) (s : Stages) → Rises line r (raised_to f line r s) → Rises line r (rung_raised_to f line r s)
rung_rises f line r s up =
    let moved = current_rises line r.current (raised_to f line r s).current up.not_lower up.below_line in
    record { not_lower = moved.0; below_line = omega (arith, moved.1, up.below_line); ordered = omega (arith, moved.1, up.ordered); target_ends = up.target_ends }

pub rungs_lawful : (f : Figures) → In Gain f → Lawful (by_rungs f)
rungs_lawful f gain = ruled_lawful rung_floor (rung_cut_to f) (rung_raised_to f) (record {
  floor_low = omega arith;
  floor_high = omega arith;
  falls = λ line c v b low high. cut_falls f gain v low c (omega (arith, b.to_line, b.line_high)) b.from_floor;
  rises = λ line r s h. rung_rises f line r s (raise_rises f line r s h.in_line.to_line h.ordered h.target_ends);
})
