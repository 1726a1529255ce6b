-- A ring that stands within its memory: its room, and what one item more does.
use Rattle.std.proofs.lemmas.Grind.{common_steps}
use Rattle.std.proofs.Common.{◌≡◌, ℕ, ◌<◌, Bool, true, false, eqb, ltb, List, [], ◌∷◌, ◌++◌, length, set, sym, ap, ◌∙◌, arith}
use Rattle.std.proofs.lemmas.Bool.{ltb-true}
use Rattle.notifiers.specs.declared.shown.Showing.{Showing}
use Rattle.notifiers.specs.declared.shown.Showing.TheVariants.{Unsampled, Quiet, Notice as Noticed}
use Rattle.ring.proofs.Turning.{waiting_length, pushed_waiting}
use Rattle.ring.specs.Held.{waiting}
use Rattle.ring.specs.Standing.{Standing, tail_place, pushed}
use Rattle.limiters.specs.declared.limiter.Identity.{Identity}
use Rattle.tally.specs.Offering.{noticing, wire_posted}
use Rattle.tally.specs.declared.notice.Notice.{Notice}
use Rattle.line.specs.Holds.{Stands}
use Rattle.line.specs.Offer.{has_room, ring_posted, memory_posted}

module _ {T : Type 0} (ring : Standing) (memory : List T) (places : ℕ) (stands : Stands ring (length memory) places) where
  pub stands_sized : eqb (length memory) ring.size ≡ true
  stands_sized = grind (arith, common_steps)

  -- the ring has room where fewer items wait than there are places
  pub room_same : (xs : List T) → waiting ring memory ≡ xs → has_room ring ≡ ltb (length xs) places
  room_same xs same =
      let counted : ring.count ≡ length xs = sym (waiting_length ring memory stands.count_in (stands.memory_sized ∙ sym stands.ring_sized)) ∙ ap length same in
      λ i. ltb (counted i) (stands.ring_sized i)

  module _ (room : has_room ring ≡ true) (x : T) where
    free : ring.count < ring.size
    free = ltb-true ring.count ring.size room

    pub pushed_stands : Stands (pushed ring) (length (set memory (tail_place ring) x)) places
    pushed_stands = grind (arith, common_steps)

    pub pushed_same : (xs : List T) → waiting ring memory ≡ xs → waiting (pushed ring) (set memory (tail_place ring) x) ≡ xs ++ (x ∷ [])
    pushed_same xs same = pushed_waiting ring memory x stands.head_in free (stands.memory_sized ∙ sym stands.ring_sized) ∙ ap (λ ys. ys ++ (x ∷ [])) same

-- the wire, whatever the notifier answers
module _ (who : Identity) (ring : Standing) (wire : List Notice) (places : ℕ) (stands : Stands ring (length wire) places) where
  pub posted_stands : (room : Bool) (shows : Showing) → has_room ring ≡ room → Stands (ring_posted room shows ring) (length (memory_posted room who shows ring wire)) places
  posted_stands room shows has = grind (arith, common_steps)

  pub posted_same :
      (room : Bool) (shows : Showing) → has_room ring ≡ room → (ns : List Notice) → waiting ring wire ≡ ns
      → waiting (ring_posted room shows ring) (memory_posted room who shows ring wire) ≡ wire_posted room who shows ns
  posted_same room Unsampled has ns same = same
  posted_same room Quiet has ns same = same
  posted_same true (Noticed v) has ns same = pushed_same ring wire places stands has (noticing who v) ns same
  posted_same false (Noticed v) has ns same = same
