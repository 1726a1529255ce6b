-- A notice, a frame and a wait keep the limiters of a sound tally.
use Rattle.std.proofs.lemmas.Grind.{common_steps}
use Rattle.std.proofs.Common.{◌≡◌, ℕ, ◌<◌, ◌≤◌, List, map, length, ◌∙◌, arith}
use Rattle.std.proofs.ByRecursion.{All-from_get_or}
use Rattle.std.proofs.lemmas.List.{length-map}
use Rattle.std.specs.List.{AllByRecursion}
use Rattle.settings.specs.declared.figures.Figures.{Figures}
use Rattle.limiters.proofs.Keeping.{hearing, sending, waiting}
use Rattle.limiters.proofs.Singles.{stays_single}
use Rattle.limiters.specs.Bounds.{Within}
use Rattle.limiters.specs.Place.{slots_after, sent_by}
use Rattle.limiters.specs.Single.{Single}
use Rattle.limiters.specs.Table.{serving, first_free}
use Rattle.limiters.specs.Wait.{micros}
use Rattle.limiters.specs.declared.limiter.Identity.{Identity}
use Rattle.limiters.specs.declared.limiter.Limiter.{Limiter}
use Rattle.limiters.specs.declared.limiter.Limiter.TheVariants.{Free}
use Rattle.tally.proofs.Slots.{Low, all_sent, all_waited, all_heard, long_heard, long_sent, taken_low, heard_low, sent_low, waited_low}
use Rattle.tally.specs.Sound.{FrameKept, NoticeKept, Sound}
use Rattle.tally.specs.Tally.{Constants, Tally}

-- the part of a sound tally that its limiters are
pub record Kept (K : Constants) (ls : List Limiter) : Type 0 where
  pub long : length ls ≡ 64
  pub within : AllByRecursion (Within K.rule K.settings.figures) ls
  pub held_low : AllByRecursion Low ls
  pub single : Single ls

module _ (K : Constants) where
  abbrev f : Figures
  f = K.settings.figures

  pub kept_of : (t : Tally) → Sound K t → Kept K t.slots
  kept_of t s = record {
    long = s.long;
    within = All-from_get_or (Within K.rule f) t.slots Free (λ i inside. s.within i (omega (arith, s.long)));
    held_low = All-from_get_or Low t.slots Free (λ i inside. s.held_low i (omega (arith, s.long)));
    single = s.single;
  }

  -- whatever holds the limiters, and the rest as it should be
  pub sound_from : (t : Tally) → Kept K t.slots → t.cursor < 64 → length t.frames ≤ K.frame_places → AllByRecursion FrameKept t.frames → length t.notices ≤ K.wire_places → AllByRecursion NoticeKept t.notices → t.since ≤ K.gap → Sound K t
  sound_from t k inside frames_fit frames_kept notices_fit notices_kept since_kept = grind (arith, common_steps)

  -- a notice, a frame and a wait keep the limiters
  pub kept_heard : (who : Identity) (v cursor : ℕ) (ls : List Limiter) → v ≤ 63 → Kept K ls → Kept K (slots_after K.rule f who v cursor ls)
  kept_heard who v cursor ls few k =
      let o = serving who ls in
      let p = first_free cursor ls in
      let h = hearing K.rule K.lawful f K.settings.period_in K.settings.line_rate_in v in
      record {
        long = long_heard K.rule f who v cursor ls o p ∙ k.long;
        within = all_heard (Within K.rule f) tt K.rule f who v cursor (h.takes who) h.keeps ls o p k.within;
        held_low = all_heard Low (omega arith) K.rule f who v cursor (taken_low K.rule f who) (heard_low K.rule f v few) ls o p k.held_low;
        single = (stays_single K.rule f).by_notice who v cursor ls k.long k.single;
      }

  pub kept_sent : (who : Identity) (n : ℕ) (ls : List Limiter) → Kept K ls → Kept K (sent_by K.rule f n ls (serving who ls))
  kept_sent who n ls k = record {
    long = long_sent K.rule f n ls (serving who ls) ∙ k.long;
    within = all_sent (Within K.rule f) tt K.rule f n (sending K.rule K.lawful f K.settings.period_in n) ls (serving who ls) k.within;
    held_low = all_sent Low (omega arith) K.rule f n (sent_low K.rule f n) ls (serving who ls) k.held_low;
    single = (stays_single K.rule f).by_frame who n ls k.single;
  }

  pub kept_waited : (n : ℕ) (ls : List Limiter) → Kept K ls → Kept K (map (micros K.rule f n) ls)
  kept_waited n ls k = record {
    long = length-map ls (micros K.rule f n) ∙ k.long;
    within = all_waited (Within K.rule f) tt K.rule f n (waiting K.rule K.lawful f K.settings.period_in n).keeps ls k.within;
    held_low = all_waited Low (omega arith) K.rule f n (waited_low K.rule f n) ls k.held_low;
    single = (stays_single K.rule f).by_wait n ls k.single;
  }
