-- A tally is sound at opening, and every call keeps it so.
use Rattle.std.proofs.lemmas.Grind.{common_steps}
use Rattle.std.proofs.Common.{◌≡◌, ℕ, ◌<◌, ◌≤◌, Bool, true, eqb, leb, List, [], ◌∷◌, length, get_or, replicate, Ok, Err, Result, sym, refl, subst, arith, Some}
use Rattle.std.proofs.lemmas.List.{length-replicate, get_or-replicate}
use Rattle.std.proofs.lemmas.Bool.{cond_both, true≢false}
use Rattle.std.specs.List.{AllByRecursion}
use Rattle.record.specs.Decoded.{decoded}
use Rattle.record.specs.declared.Record.{Record}
use Rattle.record.specs.declared.faults.ReadFault.{ReadFault}
use Rattle.limiters.specs.Bounds.{Within}
use Rattle.limiters.specs.Place.{slots_after, cursor_after}
use Rattle.limiters.specs.Single.{Single}
use Rattle.limiters.specs.Table.{fits, serving, first_free}
use Rattle.limiters.specs.declared.limiter.Limiter.TheVariants.{Free}
use Rattle.tally.proofs.Accepting.{sound_offered}
use Rattle.tally.proofs.Severities.{value_low}
use Rattle.tally.proofs.Slots.{Low, cursor_heard}
use Rattle.tally.proofs.Tables.{Kept, kept_of, kept_heard, kept_waited, sound_from}
use Rattle.tally.specs.declared.notice.Notice.{Notice}
use Rattle.tally.specs.Runs.{Open}
use Rattle.tally.specs.Sound.{NoticeKept, Sound}
use Rattle.tally.specs.Steps.{Asked, offer, leave, deliver, receive, wait, leave_after, notice_in, heeding, delivered_after, received_after, waited, longest_wait, tally_after}
use Rattle.tally.specs.Tally.{Constants, Tally, opened}

-- 64 free limiters
module _ (i : ℕ) (inside : i < 64) where
  free_at : get_or (replicate 64 Free) i Free ≡ Free
  free_at = get_or-replicate 64 i Free Free inside

free_single : Single (replicate 64 Free)
free_single who j k in-j in-k serves-j serves-k =
    let low : j < 64 = omega (arith, length-replicate 64 Free) in
    absurd (true≢false (sym (subst (λ l. fits (Some who) l ≡ true) (free_at j low) serves-j)))

pub sound_opened : (K : Constants) (old : ℕ) → Sound K (opened old)
sound_opened K old = record {
  long = length-replicate 64 Free;
  inside = omega arith;
  within = λ i low. subst (Within K.rule K.settings.figures) (sym (free_at i low)) tt;
  held_low = λ i low. subst Low (sym (free_at i low)) (omega arith);
  single = free_single;
  frames_fit = omega arith;
  frames_kept = tt;
  notices_fit = omega arith;
  notices_kept = tt;
  since_kept = omega arith;
}

module _ (K : Constants) (t : Tally) (s : Sound K t) where
  sound_left : Sound K (leave_after t)
  sound_left = grind (arith, common_steps)

  -- a notice arrives, and these are left
  pub sound_heeding : (n : Notice) (rest : List Notice) → n.value ≤ 63 → length rest ≤ K.wire_places → AllByRecursion NoticeKept rest → Sound K (heeding K t n rest)
  sound_heeding n rest few fit all =
      let rule = K.rule in
      let f = K.settings.figures in
      let ls = t.slots in
      let k = kept_of K t s in
      sound_from K (heeding K t n rest)
      (cond_both (eqb n.value 0) ls (slots_after rule f n.to n.value t.cursor ls) (Kept K) (λ _. k) (λ _. kept_heard K n.to n.value t.cursor ls few k))
      (cond_both (eqb n.value 0) t.cursor (cursor_after rule f n.to n.value t.cursor ls) (λ c. c < 64) (λ _. s.inside)
      (λ _. cursor_heard rule f n.to n.value t.cursor ls (serving n.to ls) (first_free t.cursor ls) s.inside))
      s.frames_fit s.frames_kept fit all s.since_kept

  sound_delivered : (ns : List Notice) → length ns ≤ K.wire_places → AllByRecursion NoticeKept ns → Sound K (delivered_after K t ns)
  sound_delivered [] fit all = s
  sound_delivered (n ∷ ns) fit all = sound_heeding n ns all.0.value_low (omega arith) all.1

  sound_received : (bytes : List ℕ) (r : Result Record ReadFault) → decoded bytes ≡ r → Sound K (received_after K t r)
  sound_received bytes (Ok x) e = sound_heeding (notice_in x) t.notices (value_low bytes x e) s.notices_fit s.notices_kept
  sound_received bytes (Err x) e = s

  sound_waited : (n : ℕ) → Sound K (waited K t n)
  sound_waited n = sound_from K (waited K t n) (kept_waited K n t.slots (kept_of K t s)) s.inside s.frames_fit s.frames_kept s.notices_fit s.notices_kept s.since_kept

pub sound_step : (K : Constants) (t : Tally) (a : Asked) (sampled : Bool) → Open K t a sampled → Sound K t → Sound K (tally_after K t a sampled)
sound_step K t (offer who n) sampled open' s = sound_offered K t who n sampled open' s
sound_step K t leave sampled open' s = sound_left K t s
sound_step K t deliver sampled open' s = sound_delivered K t s t.notices s.notices_fit s.notices_kept
sound_step K t (receive bytes) sampled open' s = sound_received K t s bytes (decoded bytes) refl
sound_step K t (wait n) sampled open' s = cond_both (leb n longest_wait) (waited K t n) t (Sound K) (λ _. sound_waited K t s n) (λ _. s)
