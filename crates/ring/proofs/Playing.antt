-- A list of calls, made one after the other.
use Rattle.std.proofs.Common.{◌≡◌, ℕ, ◌+◌, ◌<◌, ◌≤◌, List, [], ◌∷◌, ◌++◌, Result, length, get_or, drop, sym, refl, ap, ◌∙◌, subst}
use Rattle.std.proofs.lemmas.List.{append-nil, append_assoc, drop_all, drop_more}
use Rattle.ring.specs.declared.calls.Call.{Call}
use Rattle.ring.specs.declared.calls.Answer.{Answer}
use Rattle.ring.specs.declared.fault.RingFault.{RingFault}
use Rattle.ring.specs.Standing.{Standing}
use Rattle.ring.specs.Calls.{answer_to, standing_after, memory_after}
use Rattle.ring.specs.Runs.{answers_to, standing_at_end, memory_at_end}

-- The answers so far, and those to the calls that are left, are the answers to all; and those calls end where all end.
pub record SoFar {T : Type 0} (done : List (Result (Answer T) RingFault)) (s : Standing) (m : List T) (left : List (Call T)) (s₀ : Standing) (m₀ : List T) (calls : List (Call T)) : Type 0 where
  pub answers : done ++ answers_to s m left ≡ answers_to s₀ m₀ calls
  pub standing : standing_at_end s m left ≡ standing_at_end s₀ m₀ calls
  pub memory : memory_at_end s m left ≡ memory_at_end s₀ m₀ calls

module _ {T : Type 0} (s₀ : Standing) (m₀ : List T) (calls : List (Call T)) where
  pub so_far_none : (done : List (Result (Answer T) RingFault)) → done ≡ [] → SoFar done s₀ m₀ (drop 0 calls) s₀ m₀ calls
  so_far_none done none = record { answers = ap (λ l. l ++ answers_to s₀ m₀ calls) none; standing = refl; memory = refl }

  call_more :
      (done : List (Result (Answer T) RingFault)) (s : Standing) (m : List T) (c : Call T) (left : List (Call T)) → SoFar done s m (c ∷ left) s₀ m₀ calls
      → SoFar (done ++ (answer_to s m c ∷ [])) (standing_after s m c) (memory_after s m c) left s₀ m₀ calls
  unfolding answers_to standing_at_end memory_at_end
  call_more done s m c left h = record {
    answers = append_assoc done (answer_to s m c ∷ []) (answers_to (standing_after s m c) (memory_after s m c) left) ∙ h.answers;
    standing = h.standing;
    memory = h.memory;
  }

  pub so_far_more :
      (done : List (Result (Answer T) RingFault)) (s : Standing) (m : List T) (i : ℕ) (c : Call T)
      (done' : List (Result (Answer T) RingFault)) (a : Result (Answer T) RingFault) (s' : Standing) (m' : List T)
      → SoFar done s m (drop i calls) s₀ m₀ calls → i < length calls → c ≡ get_or calls i c
      → done' ≡ done ++ (a ∷ []) → a ≡ answer_to s m c → s' ≡ standing_after s m c → m' ≡ memory_after s m c
      → SoFar done' s' m' (drop (i + 1) calls) s₀ m₀ calls
  so_far_more done s m i c done' a s' m' h inside here pushed answered stands holds =
      let split : drop i calls ≡ c ∷ drop (i + 1) calls = drop_more calls i c inside ∙ ap (λ x. x ∷ drop (i + 1) calls) (sym here) in
      let next = call_more done s m c (drop (i + 1) calls) (subst (λ l. SoFar done s m l s₀ m₀ calls) split h) in
      rw (pushed, answered, stands, holds) next

  module _ (done : List (Result (Answer T) RingFault)) (s : Standing) (m : List T) (i : ℕ) (h : SoFar done s m (drop i calls) s₀ m₀ calls) (past : length calls ≤ i) where
    at_end : SoFar done s m [] s₀ m₀ calls
    at_end = subst (λ l. SoFar done s m l s₀ m₀ calls) (drop_all i calls past) h

    pub answered_all : done ≡ answers_to s₀ m₀ calls
    unfolding answers_to
    answered_all = sym (append-nil done) ∙ at_end.answers

    pub stands_at_end : s ≡ standing_at_end s₀ m₀ calls
    unfolding standing_at_end
    stands_at_end = at_end.standing

    pub holds_at_end : m ≡ memory_at_end s₀ m₀ calls
    unfolding memory_at_end
    holds_at_end = at_end.memory
