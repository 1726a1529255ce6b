-- First in, first out: what was taken off followed by what waits is what waited followed by what was put in.
use Rattle.std.proofs.Common.{◌≡◌, ℕ, suc, ◌-◌, ◌<◌, ◌≤◌, List, [], ◌∷◌, ◌++◌, Result, length, get_or, is_ok, sym, refl, ap, ◌∙◌, inl, inr, arith}
use Rattle.std.proofs.lemmas.List.{append-nil, append_assoc, get_or_default}
use Rattle.std.proofs.lemmas.Bool.{cond_both}
use Rattle.std.proofs.lemmas.Bool.Decides.{leb_tells, eqb_tells, nat_tests}
use Rattle.ring.specs.declared.calls.Call.{Call}
use Rattle.ring.specs.declared.calls.Call.TheVariants.{Push, Pop}
use Rattle.ring.specs.declared.calls.Answer.{Answer}
use Rattle.ring.specs.declared.fault.RingFault.{RingFault}
use Rattle.ring.specs.declared.fifo.Ring.{Ring}
use Rattle.ring.specs.Standing.{Standing, standing_of, popped}
use Rattle.ring.specs.Held.{waiting, held}
use Rattle.ring.specs.Answers.{pop_answer}
use Rattle.ring.specs.Calls.{answer_to, standing_after, memory_after}
use Rattle.ring.specs.Runs.{answers_to, standing_at_end, memory_at_end, taken_by, taken_off, put_by, put_in}
use Rattle.ring.proofs.Turning.{pushed_waiting, popped_waiting}

-- What every ring's bookkeeping is.
pub record Sound (s : Standing) : Type 0 where
  pub head_in : s.head ≤ s.size - 1
  pub count_in : s.count ≤ s.size

sound_popped : (s : Standing) → Sound s → Sound (popped s)
sound_popped s sound = record { head_in = grind (arith, nat_tests); count_in = omega (arith, sound.count_in) }

module _ {T : Type 0} where
  -- Every place holds an item.
  item_at : (m : List T) (i : ℕ) → i < length m → (x : T) × (x ≡ get_or m i x)
  item_at [] i h = absurd (omega arith)
  item_at (y ∷ m) i h = (get_or (y ∷ m) i y, get_or_default (y ∷ m) i y (get_or (y ∷ m) i y) h)

  -- The law of one call.
  abbrev Kept : Standing → List T → Call T → Type 0
  Kept s m c = taken_by (answer_to s m c) ++ waiting (standing_after s m c) (memory_after s m c) ≡ waiting s m ++ put_by c (answer_to s m c)

  push_keeps : (s : Standing) (m : List T) (x : T) → Sound s → Kept s m (Push x)
  push_keeps s m x sound =
      elim (eqb_tells (length m) s.size) [
        | inl fits ↦
            elim (leb_tells (suc s.count) s.size) [
              | inl room ↦ rw (fits.0, room.0) (pushed_waiting s m x sound.head_in room.1 fits.1)
              | inr full ↦ rw (fits.0, full.0) (sym (append-nil (waiting s m)))
            ]
        | inr other ↦ rw other.0 (sym (append-nil (waiting s m)))
      ]

  pop_keeps : (s : Standing) (m : List T) → Sound s → Kept s m Pop
  pop_keeps s m sound =
      elim (eqb_tells (length m) s.size) [
        | inl fits ↦
            elim (eqb_tells s.count 0) [
              | inl none ↦ rw (fits.0, none.1) refl
              | inr some ↦
                  let first = item_at m s.head (omega (arith, fits.1, some.1, sound.head_in, sound.count_in)) in
                  let split = popped_waiting s m first.0 sound.head_in sound.count_in (omega (arith, some.1)) fits.1 first.1 in
                  rw (fits.0, split) (sym (append-nil (first.0 ∷ waiting (popped s) m)))
            ]
        | inr other ↦ rw other.0 (sym (append-nil (waiting s m)))
      ]

  call_keeps : (s : Standing) (m : List T) (c : Call T) → Sound s → Kept s m c
  call_keeps s m (Push x) sound = push_keeps s m x sound
  call_keeps s m Pop sound = pop_keeps s m sound

  -- The bookkeeping stays sound.
  sound_after : (s : Standing) (m : List T) (c : Call T) → Sound s → Sound (standing_after s m c)
  sound_after s m (Push x) sound =
      elim (eqb_tells (length m) s.size) [
        | inl fits ↦
            elim (leb_tells (suc s.count) s.size) [
              | inl room ↦ rw (fits.0, room.0) (record { head_in = sound.head_in; count_in = omega (arith, room.1) })
              | inr full ↦ rw (fits.0, full.0) sound
            ]
        | inr other ↦ rw other.0 sound
      ]
  sound_after s m Pop sound = cond_both (is_ok (pop_answer s m)) (popped s) s Sound (λ _. sound_popped s sound) (λ _. sound)

  -- For any bookkeeping that is sound.
  pub in_order_computed :
      (s : Standing) (m : List T) (calls : List (Call T)) → Sound s
      → taken_off (answers_to s m calls) ++ waiting (standing_at_end s m calls) (memory_at_end s m calls) ≡ waiting s m ++ put_in calls (answers_to s m calls)
  unfolding answers_to standing_at_end memory_at_end taken_off put_in
  in_order_computed s m [] sound = sym (append-nil (waiting s m))
  in_order_computed s m (c ∷ calls) sound =
      let s' = standing_after s m c in
      let m' = memory_after s m c in
      let a = answer_to s m c in
      let rest = answers_to s' m' calls in
      append_assoc (taken_by a) (taken_off rest) (waiting (standing_at_end s' m' calls) (memory_at_end s' m' calls))
      ∙ ap (λ l. taken_by a ++ l) (in_order_computed s' m' calls (sound_after s m c sound))
      ∙ sym (append_assoc (taken_by a) (waiting s' m') (put_in calls rest))
      ∙ ap (λ l. l ++ put_in calls rest) (call_keeps s m c sound)
      ∙ append_assoc (waiting s m) (put_by c a) (put_in calls rest)

  -- The law of a whole list of calls.
  pub in_order :
      (r : Ring) (m : List T) (calls : List (Call T)) (answers : List (Result (Answer T) RingFault)) (r' : Ring) (m' : List T)
      → answers ≡ answers_to (standing_of r) m calls → standing_of r' ≡ standing_at_end (standing_of r) m calls → m' ≡ memory_at_end (standing_of r) m calls
      → taken_off answers ++ held r' m' ≡ held r m ++ put_in calls answers
  in_order r m calls answers r' m' answered stands holds =
      let sound : Sound (standing_of r) = record { head_in = r.head_in; count_in = r.count_in } in
      ap (λ s. taken_off answers ++ waiting s m') stands ∙ rw (answered, holds) (in_order_computed (standing_of r) m calls sound)
