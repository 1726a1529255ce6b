-- A new line holds the tally of an opening.
use Rattle.std.proofs.lemmas.Grind.{common_steps}
use Rattle.std.proofs.Common.{◌≡◌, ℕ, Bool, true, cond, eqb, leb, List, length, Some, None, refl, arith}
use Rattle.std.proofs.lemmas.Bool.{and_parts, leb-true, eqb-true}
use Rattle.rates.specs.Rule.{Lawful}
use Rattle.rates.specs.declared.regime.Regime.{Regime}
use Rattle.rates.specs.declared.rate_rule.RateRule.{Ghosts as RuleGhosts}
use Rattle.notifiers.specs.declared.notifier.Notifier.{Ghosts as NotifierGhosts}
use Rattle.ring.specs.Standing.{fresh}
use Rattle.tally.proofs.Soundness.{sound_opened}
use Rattle.tally.specs.Tally.{Constants, opened}
use Rattle.tally.specs.declared.fault.OpenFault.TheVariants.{Notifier, Memory}
use Rattle.tally.specs.declared.frame.Frame.{Frame}
use Rattle.tally.specs.declared.notice.Notice.{Notice}
use Rattle.line.specs.Holds.{Stands, Holds}
use Rattle.line.specs.Opening.{in_limits, matching, open_refusal, new_state, Fixed}

none_tells : (a b : Bool) → cond a (cond b None (Some Memory)) (Some Notifier) ≡ None → (a ≡ true) × (b ≡ true)
none_tells a b e = grind (arith, common_steps)

fresh_stands : (n : ℕ) → Stands (fresh n) n n
fresh_stands n = grind (arith, common_steps)

pub opens :
    {R N : Type 0} (rr : RuleGhosts R) (nn : NotifierGhosts N) (regime : Regime R) (notifier : N) (frames : List Frame) (wire : List Notice)
    → Lawful (rr.meaning regime.rule) → open_refusal regime.settings (nn.meter notifier) (length frames) (length wire) ≡ None
    → (K : Constants) × Fixed regime notifier frames wire rr nn K × Holds rr nn K (new_state regime notifier frames wire) (opened (nn.meter notifier).old)
opens rr nn regime notifier frames wire lawful none =
    let meter = nn.meter notifier in
    let told = none_tells (matching regime.settings meter) (in_limits (length frames) (length wire)) none in
    let match' = and_parts (eqb meter.set_point regime.settings.figures.set_point) (eqb meter.weight regime.settings.figures.weight) told.0 in
    let sizes = and_parts _ _ told.1 in
    let few_frames = leb-true (length frames) 256 (and_parts (leb 1 (length frames)) (leb (length frames) 256) sizes.0).1 in
    let few_notices = leb-true (length wire) 32 (and_parts (leb 1 (length wire)) (leb (length wire) 32) sizes.1).1 in
    let K : Constants = record {
      settings = regime.settings;
      rule = rr.meaning regime.rule;
      lawful = lawful;
      frame_places = length frames;
      few_frames = few_frames;
      wire_places = length wire;
      few_notices = few_notices;
      gap = meter.gap;
      withholds = meter.withholds;
    } in (
      K,
      record { settings_fixed = refl; rule_fixed = refl; frames_fixed = refl; wire_fixed = refl; gap_fixed = refl; withholds_fixed = refl },
      record {
        settings_same = refl;
        rule_same = refl;
        slots_same = refl;
        cursor_same = refl;
        frames_stand = fresh_stands (length frames);
        frames_same = refl;
        wire_stands = fresh_stands (length wire);
        notices_same = refl;
        pages_same = refl;
        means = record {
          set_point_same = eqb-true _ _ match'.0;
          weight_same = eqb-true _ _ match'.1;
          gap_same = refl;
          withholds_same = refl;
          old_same = refl;
          since_behind = omega arith;
        };
        sound = sound_opened K meter.old;
      },
    )
