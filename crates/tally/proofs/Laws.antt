-- The three promises hold over every run.
use Rattle.std.proofs.Common.{ℕ, ◌+◌, ◌<◌, ◌≤◌, List, ◌++◌, sum_by, subst, arith}
use Rattle.std.specs.List.{AllByRecursion}
use Rattle.limiters.specs.Step.{full_credit}
use Rattle.limiters.specs.declared.limiter.Identity.{Identity}
use Rattle.tally.specs.Counts.{charged_at, earned_at}
use Rattle.tally.specs.Promises.{Lowers, Serves, Told, Crowded, Promises, HoldsAlways}
use Rattle.tally.specs.Runs.{Moment, Run}
use Rattle.tally.specs.Sound.{Sound}
use Rattle.tally.specs.Tally.{Constants, Tally, opened}
use Rattle.tally.proofs.Accounting.{Accounted, accounted, run_counts, run_order}
use Rattle.tally.proofs.Crowding.{crowded_step}
use Rattle.tally.proofs.Lowering.{rates_of_sound, lowers_step}
use Rattle.tally.proofs.Measuring.{run_since}
use Rattle.tally.proofs.Pacing.{Paid, paid, slot_full, run_paid}
use Rattle.tally.proofs.Soundness.{sound_opened}
use Rattle.tally.proofs.Telling.{told_step}
use Rattle.tally.proofs.Walking.{definite, run_split, run_sound, run_all}

-- a stretch of a run, whatever comes before and after it
paced : (K : Constants) (t u : Tally) (who : Identity) (i : ℕ) (before stretch after : List Moment) → Sound K t → i < 64 → Run K t (before ++ (stretch ++ after)) u → AllByRecursion (Serves who i) stretch
    → sum_by (charged_at who) stretch ≤ full_credit + sum_by (earned_at K i) stretch
paced K t u who i before stretch after sound inside run serves =
    let first = run_split K before (stretch ++ after) t u run in
    let then' = run_split K stretch after first.0 u first.2 in
    let start = run_sound K before t first.0 sound first.1 in
    let each = run_all K (Paid K who i) (λ v a sampled sound'. paid K v who i sound' inside a sampled) stretch first.0 then'.0 start then'.1 in
    let kept = run_paid K who i stretch first.0 then'.0 each serves then'.1 in
    let most = slot_full K first.0 i start inside in
    omega arith

promised : (K : Constants) (old : ℕ) (ms : List Moment) (u : Tally) → Run K (opened old) ms u → Promises K ms u
promised K old ms u run =
    let start = sound_opened K old in
    let end = run_sound K ms (opened old) u start run in
    let accounts = run_all K Accounted (accounted K) ms (opened old) u start run in
    record {
      rates = rates_of_sound K u end;
      single = end.single;
      lowers = run_all K (Lowers K) (lowers_step K) ms (opened old) u start run;
      pace = λ who i before stretch after inside is serves. paced K (opened old) u who i before stretch after start inside (subst (λ l. Run K (opened old) l u) is run) serves;
      account = let counts = run_counts K ms (opened old) u accounts run in omega arith;
      order = run_order K ms (opened old) u accounts run;
      gap_kept = let since = run_since K ms (opened old) u run in omega arith;
      crowded = run_all K Crowded (crowded_step K) ms (opened old) u start run;
      told = run_all K (Told K) (λ t a sampled _. told_step K t a sampled) ms (opened old) u start run;
    }

pub holds_always : HoldsAlways
holds_always = record { promised = promised; definite = definite }
