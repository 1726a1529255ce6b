-- A notice arrives at the line as at the tally, off its wire or in a record.
use Rattle.std.proofs.lemmas.Grind.{common_steps}
use Rattle.std.proofs.Common.{◌≡◌, ℕ, true, List, [], ◌∷◌, length, Result, sym, ap, ◌∙◌, subst, arith}
use Rattle.std.proofs.lemmas.Bool.{cond-true}
use Rattle.std.specs.List.{AllByRecursion}
use Rattle.record.specs.Decoded.{decoded}
use Rattle.record.specs.declared.Record.{Record}
use Rattle.record.specs.declared.faults.ReadFault.{ReadFault}
use Rattle.rates.specs.declared.rate_rule.RateRule.{Ghosts as RuleGhosts}
use Rattle.notifiers.specs.declared.notifier.Notifier.{Ghosts as NotifierGhosts}
use Rattle.ring.specs.Held.{waiting}
use Rattle.ring.specs.Standing.{Standing, popped}
use Rattle.tally.proofs.Soundness.{sound_step}
use Rattle.tally.specs.Sound.{NoticeKept, Sound}
use Rattle.tally.specs.Steps as tally
use Rattle.tally.specs.Steps.{deliver, receive, told_notice}
use Rattle.tally.specs.Tally.{Constants, Tally}
use Rattle.tally.specs.declared.notice.Notice.{Notice}
use Rattle.line.proofs.Standing.{popped_stands, popped_rest, sized_held}
use Rattle.line.specs.Holds.{Stands, Holds, Follows}
use Rattle.line.specs.State.{State}
use Rattle.line.specs.Taking.{lawful_notice, heeding, delivered_from, delivered_by, deliver_answer, deliver_after, received_from, received_by, receive_answer, receive_after}

-- a notice that was made here is of a lawful value
lawful_same : (n : Notice) → NoticeKept n → lawful_notice n ≡ n
lawful_same n kept = grind (arith, common_steps)

module _ {R N : Type 0} (rr : RuleGhosts R) (nn : NotifierGhosts N) (s : State R N) where
  module _ (K : Constants) (t : Tally) (h : Holds rr nn K s t) where
    heeding_held :
        (n : Notice) (ring : Standing) (rest : List Notice) → Stands ring (length s.wire) K.wire_places → waiting ring s.wire ≡ rest
        → Sound K (tally.heeding K t n rest) → Holds rr nn K (heeding rr s n ring) (tally.heeding K t n rest)
    heeding_held n ring rest stands same sound = grind (arith, common_steps)

    delivered_same : (ns : List Notice) → AllByRecursion NoticeKept ns → delivered_from rr s ns ≡ tally.delivered_from K t ns
    delivered_same ns all = grind (arith, common_steps)

    delivered_held :
        (ns : List Notice) → waiting s.wire_ring s.wire ≡ ns → AllByRecursion NoticeKept ns → Sound K (tally.delivered_after K t ns)
        → Holds rr nn K (delivered_by rr s ns) (tally.delivered_after K t ns)
    delivered_held [] same all sound = h
    delivered_held (n ∷ ns) same all sound =
        subst (λ m. Holds rr nn K (heeding rr s m (popped s.wire_ring)) (tally.heeding K t n ns)) (sym (lawful_same n all.0))
        (heeding_held n (popped s.wire_ring) ns (popped_stands s.wire_ring (length s.wire) K.wire_places h.wire_stands)
        (popped_rest s.wire_ring s.wire K.wire_places h.wire_stands n ns same) sound)

    received_same : (r : Result Record ReadFault) → received_from rr s r ≡ tally.received_from K t r
    received_same r = grind (arith, common_steps)

    received_held : (r : Result Record ReadFault) → Sound K (tally.received_after K t r) → Holds rr nn K (received_by rr s r) (tally.received_after K t r)
    received_held r sound = grind (arith, common_steps)

  pub delivers : Follows rr nn s deliver (told_notice (deliver_answer rr s)) (deliver_after rr s)
  delivers K t h =
      let fits = sized_held rr nn s K t h in
      let kept = h.sound.notices_kept in
      let moves : deliver_after rr s ≡ delivered_by rr s t.notices = cond-true _ _ _ fits ∙ ap (delivered_by rr s) h.notices_same in (
        true,
        tt,
        ap told_notice (cond-true _ _ _ fits ∙ ap (delivered_from rr s) h.notices_same ∙ delivered_same K t h t.notices kept),
        subst (λ u. Holds rr nn K u (tally.delivered_after K t t.notices)) (sym moves)
            (delivered_held K t h t.notices h.notices_same kept (sound_step K t deliver true tt h.sound)),
      )

  pub receives : (bytes : List ℕ) → Follows rr nn s (receive bytes) (told_notice (receive_answer rr s bytes)) (receive_after rr s bytes)
  receives bytes K t h =
      let fits = sized_held rr nn s K t h in
      let moves : receive_after rr s bytes ≡ received_by rr s (decoded bytes) = cond-true _ _ _ fits in (
        true,
        tt,
        ap told_notice (cond-true _ _ _ fits ∙ received_same K t h (decoded bytes)),
        subst (λ u. Holds rr nn K u (tally.received_after K t (decoded bytes))) (sym moves) (received_held K t h (decoded bytes) (sound_step K t (receive bytes) true tt h.sound)),
      )
