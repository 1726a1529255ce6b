-- An offer to a line follows the tally that it holds.
use Rattle.std.proofs.lemmas.Grind.{common_steps}
use Rattle.std.proofs.Common.{◌≡◌, ℕ, ◌+◌, ◌<◌, ◌≤◌, Bool, true, false, cond, [], ◌∷◌, ◌++◌, Some, None, Option, Result, sym, refl, ap, ◌∙◌, subst, arith}
use Rattle.std.proofs.lemmas.Bool.{lt-ltb}
use Rattle.rates.specs.declared.rate_rule.RateRule.{Ghosts as RuleGhosts}
use Rattle.notifiers.specs.Meter.{Meter, lawful, at, moved}
use Rattle.notifiers.specs.declared.notifier.Notifier.{Ghosts as NotifierGhosts}
use Rattle.notifiers.specs.declared.shown.Shown.{Shown}
use Rattle.limiters.specs.Place.{sent_by}
use Rattle.limiters.specs.Table.{serving}
use Rattle.limiters.specs.declared.limiter.Identity.{Identity}
use Rattle.tally.proofs.Accepting.{admitted, sound_offered}
use Rattle.tally.specs.Offering.{unless, moved_unless, posted, wire_posted, offer_refused, frames_offered, offer_showing, wire_room, offer_answer, offer_moved, offer_after}
use Rattle.tally.specs.Runs.{Open}
use Rattle.tally.specs.Sound.{Sound}
use Rattle.tally.specs.Steps.{offer, told_offer}
use Rattle.tally.specs.Tally.{Constants, Tally, pages_waiting}
use Rattle.tally.specs.declared.call.Offered.{Offered}
use Rattle.tally.specs.declared.fault.CallFault.{CallFault}
use Rattle.line.proofs.Following.{carried}
use Rattle.line.specs.Holds.{Means, Holds, Follows}
use Rattle.line.specs.Offer.{has_room, pages_more, new_frame, shown, sampling, showing, answer, accepted, after}
use Rattle.line.specs.State.{State}
use Rattle.line.proofs.Posting.{pushed_stands, pushed_same, posted_stands, posted_same}
use Rattle.line.proofs.Seeing.{figures_same, frames_room, notices_room, refused_same, frame_same, pages_now, showing_same}

-- the notifier means the tally after, by its choice
means_moved :
    (K : Constants) (m : Meter) (t : Tally) (who : Identity) (n q : ℕ) → q ≡ pages_waiting (frames_offered K t who n) → Means K m t
    → (sampled : Bool) → Means K (cond sampled (at m q 0) (at m m.old (m.since + n))) (offer_moved K t who n sampled)
means_moved K m t who n q counts h sampled = grind (arith, common_steps)

module _
    {R N : Type 0} (rr : RuleGhosts R) (nn : NotifierGhosts N)
    (due : (x : N) (s : Shown) → lawful s ≡ true → (nn.meter x).gap < (nn.meter x).since + s.length → nn.samples x s ≡ true)
    (moves : (x : N) (s : Shown) → nn.meter (nn.next x s) ≡ moved (nn.meter x) s (nn.samples x s))
    (s : State R N) (who : Identity) (n : ℕ)
  where
    module _ (K : Constants) (t : Tally) (h : Holds rr nn K s t) where
      abbrev chosen : Bool
      chosen = sampling rr nn s who n

      abbrev meter_now : Meter
      meter_now = nn.meter s.notifier

      module _ (none : offer_refused K t who n ≡ None) where
        gap_open : chosen ≡ false → t.since + n ≤ K.gap
        gap_open not' = grind (arith, common_steps)

        meter_after : nn.meter (nn.next s.notifier (shown rr nn s who n)) ≡ cond chosen (at meter_now (pages_more s.pages n) 0) (at meter_now meter_now.old (meter_now.since + n))
        meter_after = grind (arith, common_steps)

        frames_free : has_room s.frame_ring ≡ true
        frames_free = frames_room rr nn s who n K t h ∙ lt-ltb _ _ (admitted K t who n none).room

        accepted_sound : Sound K (offer_moved K t who n chosen)
        accepted_sound = subst (λ o. Sound K (moved_unless o t (offer_moved K t who n chosen))) none (sound_offered K t who n chosen (λ _. gap_open) h.sound)

        accepted_holds : Holds rr nn K (accepted rr nn s who n) (offer_moved K t who n chosen)
        accepted_holds = record {
          settings_same = h.settings_same;
          rule_same = h.rule_same;
          slots_same = λ i. sent_by (h.rule_same i) (figures_same rr nn s who n K t h i) n (h.slots_same i) (serving who (h.slots_same i));
          cursor_same = h.cursor_same;
          frames_stand = pushed_stands s.frame_ring s.frames K.frame_places h.frames_stand frames_free (new_frame rr nn s who n);
          frames_same = pushed_same s.frame_ring s.frames K.frame_places h.frames_stand frames_free (new_frame rr nn s who n) t.frames h.frames_same ∙ ap (λ f. t.frames ++ (f ∷ [])) (frame_same rr nn s who n K t h);
          wire_stands = posted_stands who s.wire_ring s.wire K.wire_places h.wire_stands (has_room s.wire_ring) (showing rr nn s who n) refl;
          notices_same =
              posted_same who s.wire_ring s.wire K.wire_places h.wire_stands (has_room s.wire_ring) (showing rr nn s who n) refl t.notices h.notices_same
              ∙ (λ i. wire_posted (notices_room rr nn s who n K t h i) who (showing_same rr nn s who n K t h none i) t.notices);
          pages_same = pages_now rr nn s who n K t h none;
          means = subst (λ m. Means K m (offer_moved K t who n chosen)) (sym meter_after) (means_moved K meter_now t who n (pages_more s.pages n) (pages_now rr nn s who n K t h none) h.means chosen);
          sound = accepted_sound;
        }

      -- by what the tally says of it
      follows_by :
          (o : Option CallFault) → offer_refused K t who n ≡ o
          → Open K t (offer who n) chosen × (told_offer (answer rr nn s who n) ≡ told_offer (offer_answer K t who n chosen)) × Holds rr nn K (after rr nn s who n) (offer_after K t who n chosen)
      follows_by None e = (
        λ _. gap_open e,
        λ i. told_offer (unless (refused_same rr nn s who n K t h i) (posted (notices_room rr nn s who n K t h i) (showing_same rr nn s who n K t h e i))),
        subst (λ p. Holds rr nn K (moved_unless p s (accepted rr nn s who n)) (offer_after K t who n chosen)) (sym (refused_same rr nn s who n K t h ∙ e))
            (subst (λ p. Holds rr nn K (accepted rr nn s who n) (moved_unless p t (offer_moved K t who n chosen))) (sym e) (accepted_holds e)),
      )
      follows_by (Some x) e = (
        λ none. cc,
        ap (λ p. told_offer (unless p (posted (has_room s.wire_ring) (showing rr nn s who n)))) (refused_same rr nn s who n K t h ∙ e)
            ∙ ap (λ p. told_offer (unless p (posted (wire_room K t who n chosen) (offer_showing K t who n chosen)))) (sym e),
        subst (λ p. Holds rr nn K (moved_unless p s (accepted rr nn s who n)) (offer_after K t who n chosen)) (sym (refused_same rr nn s who n K t h ∙ e))
            (subst (λ p. Holds rr nn K s (moved_unless p t (offer_moved K t who n chosen))) (sym e) h),
      )

    offers : Follows rr nn s (offer who n) (told_offer (answer rr nn s who n)) (after rr nn s who n)
    offers K t h = let f = follows_by K t h (offer_refused K t who n) refl in (sampling rr nn s who n, f.0, f.1, f.2)

    pub offer_follows : (r : Result Offered CallFault) (u : State R N) → r ≡ answer rr nn s who n → u ≡ after rr nn s who n → Follows rr nn s (offer who n) (told_offer r) u
    offer_follows r u answers moves' = carried rr nn s (offer who n) _ _ _ _ (ap told_offer answers) moves' offers
