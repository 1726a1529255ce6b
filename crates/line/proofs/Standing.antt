-- A line that holds a tally: its sizes are right, and a ring without its oldest item stands as it did.
use Rattle.std.proofs.lemmas.Grind.{common_steps}
use Rattle.std.proofs.Common.{◌≡◌, ℕ, ◌<◌, true, List, ◌∷◌, length, get_or, sym, ap, ◌∙◌, arith}
use Rattle.std.proofs.lemmas.List.{get_or_default}
use Rattle.std.proofs.lemmas.Bool.Decides.{nat_tests}
use Rattle.rates.specs.declared.rate_rule.RateRule.{Ghosts as RuleGhosts}
use Rattle.notifiers.specs.declared.notifier.Notifier.{Ghosts as NotifierGhosts}
use Rattle.ring.proofs.Turning.{waiting_length, popped_waiting}
use Rattle.ring.specs.Held.{waiting}
use Rattle.ring.specs.Standing.{Standing, popped}
use Rattle.tally.specs.Tally.{Constants, Tally}
use Rattle.line.specs.Holds.{Stands, Holds}
use Rattle.line.specs.State.{State, sized}

module _ (ring : Standing) (memory places : ℕ) (st : Stands ring memory places) where
  pub memory_fits : memory ≡ ring.size
  memory_fits = st.memory_sized ∙ sym st.ring_sized

  -- a ring without its oldest item stands in the same memory
  pub popped_stands : Stands (popped ring) memory places
  popped_stands = record { ring_sized = st.ring_sized; memory_sized = st.memory_sized; head_in = grind (arith, nat_tests); count_in = omega arith }

-- what waits once the oldest item is taken off
module _ {T : Type 0} (ring : Standing) (m : List T) (places : ℕ) (st : Stands ring (length m) places) (x : T) (xs : List T) where
  pub popped_rest : waiting ring m ≡ x ∷ xs → waiting (popped ring) m ≡ xs
  popped_rest e =
      let long = memory_fits ring (length m) places st in
      let some : 0 < ring.count = omega (arith, waiting_length ring m st.count_in long, ap length e) in
      let inside : ring.head < length m = omega arith in
      let y : T = get_or m ring.head x in
      let split = popped_waiting ring m y st.head_in st.count_in some long (get_or_default m ring.head x y inside) in
      cc

module _ {R N : Type 0} (rr : RuleGhosts R) (nn : NotifierGhosts N) (s : State R N) (K : Constants) (t : Tally) (h : Holds rr nn K s t) where
  -- both memories are of the sizes that opening fixed
  pub sized_held : sized s ≡ true
  sized_held = grind (arith, common_steps)
