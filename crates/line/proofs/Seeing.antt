-- What a line makes of an offer is what the tally that it holds makes of it.
use Rattle.std.proofs.lemmas.Grind.{common_steps}
use Rattle.std.proofs.Common.{◌≡◌, ℕ, ◌+◌, ◌≤◌, true, cond, ◌&&◌, ltb, length, None, ap, ◌∙◌, subst, arith}
use Rattle.std.proofs.lemmas.Bool.{true≢false, cond-true, and_from}
use Rattle.settings.specs.declared.accepted.Settings.{Settings}
use Rattle.rates.specs.declared.rate_rule.RateRule.{Ghosts as RuleGhosts}
use Rattle.notifiers.specs.Meter.{Meter, lawful, valued}
use Rattle.notifiers.specs.Severity.{severity}
use Rattle.notifiers.specs.declared.notifier.Notifier.{Ghosts as NotifierGhosts}
use Rattle.notifiers.specs.declared.shown.Showing.TheVariants.{Unsampled}
use Rattle.limiters.specs.declared.limiter.Identity.{Identity}
use Rattle.tally.proofs.Accepting.{sound_offered}
use Rattle.tally.specs.Offering.{moved_unless, offer_refusal, offer_refused, offered_frame, frames_offered, offer_showing, offer_moved}
use Rattle.tally.specs.Sound.{Sound}
use Rattle.tally.specs.Tally.{Constants, Tally, pages, pages_waiting}
use Rattle.line.specs.Holds.{Holds}
use Rattle.line.specs.Offer.{has_room, pages_more, refusal, new_frame, shown, sampling, showing}
use Rattle.line.specs.State.{State}
use Rattle.line.proofs.Pages.{pages_low}
use Rattle.line.proofs.Posting.{stands_sized, room_same}

module _ {R N : Type 0} (rr : RuleGhosts R) (nn : NotifierGhosts N) (s : State R N) (who : Identity) (n : ℕ) (K : Constants) (t : Tally) (h : Holds rr nn K s t) where
  pub figures_same : s.regime.settings.figures ≡ K.settings.figures
  figures_same = ap (λ (x : Settings). x.figures) h.settings_same

  pub frames_room : has_room s.frame_ring ≡ ltb (length t.frames) K.frame_places
  frames_room = room_same s.frame_ring s.frames K.frame_places h.frames_stand t.frames h.frames_same

  pub notices_room : has_room s.wire_ring ≡ ltb (length t.notices) K.wire_places
  notices_room = room_same s.wire_ring s.wire K.wire_places h.wire_stands t.notices h.notices_same

  pub refused_same : refusal rr nn s who n ≡ offer_refused K t who n
  refused_same =
      cond-true _ _ _ (and_from _ _ (stands_sized s.frame_ring s.frames K.frame_places h.frames_stand) (stands_sized s.wire_ring s.wire K.wire_places h.wire_stands))
      ∙ (λ i. offer_refusal (figures_same i) (frames_room i) (h.slots_same i) who n)

  mark_same : (new_frame rr nn s who n).mark ≡ (offered_frame K t who n).mark
  mark_same = grind (arith, common_steps)

  pub frame_same : new_frame rr nn s who n ≡ offered_frame K t who n
  frame_same = λ i. record { from = who; length = n; mark = mark_same i }

  module _ (none : offer_refused K t who n ≡ None) where
    -- whether it is sampled or not, the frames are kept
    sampled_sound : Sound K (offer_moved K t who n true)
    sampled_sound = subst (λ o. Sound K (moved_unless o t (offer_moved K t who n true))) none (sound_offered K t who n true (λ _ e. absurd (true≢false e)) h.sound)

    pages_few : pages_waiting (frames_offered K t who n) ≤ 2048
    pages_few = pages_low (frames_offered K t who n) sampled_sound.frames_kept (omega (arith, sampled_sound.frames_fit, K.few_frames))

    pages_grow : pages_waiting (frames_offered K t who n) ≡ pages_waiting t.frames + pages n
    pages_grow = grind (arith, common_steps)

    pub pages_now : pages_more s.pages n ≡ pages_waiting (frames_offered K t who n)
    pages_now = omega (arith, h.pages_same, pages_grow, pages_few)

    pub shown_lawful : lawful (shown rr nn s who n) ≡ true
    shown_lawful = grind (arith, common_steps)

    pub showing_same : showing rr nn s who n ≡ offer_showing K t who n (sampling rr nn s who n)
    showing_same =
        let m = h.means in
        let x : Meter = nn.meter s.notifier in
        let chosen = sampling rr nn s who n in
        ap (λ l. cond (l && chosen) (valued (severity x.set_point x.weight (pages_more s.pages n) x.old) x.withholds (new_frame rr nn s who n).mark) Unsampled) shown_lawful
        ∙ (λ i. cond chosen (valued (severity (m.set_point_same i) (m.weight_same i) (pages_now i) (m.old_same i)) (m.withholds_same i) (mark_same i)) Unsampled)
