-- An accepted frame keeps a tally sound.
use Rattle.std.proofs.lemmas.Grind.{common_steps}
use Rattle.std.proofs.Common.{◌≡◌, ℕ, ◌+◌, ◌<◌, ◌≤◌, Bool, true, false, ltb, List, length, Some, None, Option, refl, arith}
use Rattle.std.proofs.ByRecursion.{All-push}
use Rattle.std.proofs.lemmas.List.{length_push}
use Rattle.std.proofs.lemmas.Bool.{cond_both}
use Rattle.std.specs.List.{AllByRecursion}
use Rattle.notifiers.specs.declared.shown.Showing.{Showing}
use Rattle.limiters.specs.Pass.{passes, limiter_of}
use Rattle.limiters.specs.Table.{serving}
use Rattle.limiters.specs.declared.limiter.Identity.{Identity}
use Rattle.tally.proofs.Severities.{Fair, severity_low, valued_fair, shown_fair}
use Rattle.tally.proofs.Slots.{Low, at_found, sent_low}
use Rattle.tally.proofs.Tables.{Kept, kept_of, kept_sent, sound_from}
use Rattle.tally.specs.declared.fault.CallFault.{CallFault}
use Rattle.tally.specs.declared.notice.Notice.{Notice}
use Rattle.tally.specs.Offering.{noticing, wire_posted, moved_unless, offer_refused, offered_frame, offer_severity, offer_showing, offer_moved}
use Rattle.tally.specs.Sound.{FrameKept, NoticeKept, Sound}
use Rattle.tally.specs.Tally.{Constants, Tally}

-- the wire after a sample
notice_kept : (who : Identity) (v : ℕ) → (1 ≤ v) × (v ≤ 63) → NoticeKept (noticing who v)
notice_kept who v fair = grind (arith, common_steps)

wire_kept : (room : Bool) (who : Identity) (s : Showing) (ns : List Notice) → Fair s → AllByRecursion NoticeKept ns → AllByRecursion NoticeKept (wire_posted room who s ns)
wire_kept room who s ns fair all = grind (arith, common_steps)

wire_fits : (places : ℕ) (who : Identity) (s : Showing) (ns : List Notice) → length ns ≤ places → length (wire_posted (ltb (length ns) places) who s ns) ≤ places
wire_fits places who s ns fit = grind (arith, common_steps)

module _ (K : Constants) (t : Tally) (who : Identity) (n : ℕ) where
  -- an offer that is not refused has a lawful length and room, and passes
  pub record Admitted : Type 0 where
    pub not_long : n ≤ 2000
    pub room : length t.frames < K.frame_places
    pub passed : passes K.settings.figures n who t.slots ≡ true

  pub admitted : offer_refused K t who n ≡ None → Admitted
  admitted e = grind (arith, common_steps)

  mark_low : Kept K t.slots → (offered_frame K t who n).mark ≤ 63
  mark_low k = sent_low K.rule K.settings.figures n (limiter_of who t.slots) (at_found Low (omega arith) t.slots (serving who t.slots) k.held_low)

  module _ (sampled : Bool) where
    showing_fair : Fair (offer_showing K t who n sampled)
    showing_fair = shown_fair sampled _ (valued_fair (offer_severity K t who n) K.withholds (offered_frame K t who n).mark (severity_low K _ t.old))

    sound_accepted : Admitted → (sampled ≡ false → t.since + n ≤ K.gap) → Sound K t → Sound K (offer_moved K t who n sampled)
    sound_accepted a gap s =
        let k = kept_of K t s in
        let x = offered_frame K t who n in
        sound_from K (offer_moved K t who n sampled) (kept_sent K who n t.slots k) s.inside
        (omega (arith, length_push t.frames x, a.room))
        (All-push FrameKept t.frames x s.frames_kept (record { not_long = a.not_long; mark_low = mark_low k }))
        (wire_fits K.wire_places who (offer_showing K t who n sampled) t.notices s.notices_fit)
        (wire_kept (ltb (length t.notices) K.wire_places) who (offer_showing K t who n sampled) t.notices showing_fair s.notices_kept)
        (cond_both sampled 0 (t.since + n) (λ m. m ≤ K.gap) (λ _. omega arith) gap)

    sound_unless : (o : Option CallFault) → offer_refused K t who n ≡ o → (offer_refused K t who n ≡ None → sampled ≡ false → t.since + n ≤ K.gap) → Sound K t → Sound K (moved_unless o t (offer_moved K t who n sampled))
    sound_unless None e open' s = sound_accepted (admitted e) (open' e) s
    sound_unless (Some x) e open' s = s

    pub sound_offered : (offer_refused K t who n ≡ None → sampled ≡ false → t.since + n ≤ K.gap) → Sound K t → Sound K (moved_unless (offer_refused K t who n) t (offer_moved K t who n sampled))
    sound_offered = sound_unless (offer_refused K t who n) refl
