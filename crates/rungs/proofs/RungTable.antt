-- The table as a list: its entries are the rungs, so a limit parts it where it parts them.
use Rattle.std.proofs.Common.{◌≡◌, ℕ, ◌-◌, ◌<◌, ◌≤◌, true, false, List, length, take, ltb, get_or, Some, None, Option, Bor, sym, ap, ◌∙◌, subst, ⊎_elim, arith, length-take, zero-add}
use Rattle.std.specs.List.{slice_get}
use Rattle.std.specs.Option.{option_copied}
use Rattle.std.specs.Slice.{IsItemAt}
use Rattle.std.specs.List.Sorted.{IsNonDecreasingBy, IsPartitionPoint}
use Rattle.std.proofs.lemmas.Bool.{ltb-true, ltb-false, cases_lt}
use Rattle.std.proofs.lemmas.List.{get_or-take}
use Rattle.std.proofs.lemmas.Option.{slice_get-get_or, slice_get_past}
use Rattle.rungs.specs.Rungs.{rung, listed, count, Parted, greatest_below, least_from}
use Rattle.rungs.proofs.RungLaws.{listed_at, length-listed, rising_to}
use Rattle.rungs.proofs.RungSearch.{none_is_below, greatest_at, none_is_from, least_at}

-- xs is the table: its length, and each entry
pub record IsTable (xs : List ℕ) : Type 0 where
  pub size : length xs ≡ count
  pub entry : (k d : ℕ) → k < count → get_or xs k d ≡ rung k

pub is_table : (xs : List ℕ) → xs ≡ listed 0 count → IsTable xs
is_table xs e = subst IsTable (sym e) (record {
  size = length-listed count 0;
  entry = λ k d h. listed_at count 0 k d h ∙ ap rung (zero-add k);
})

module _ (xs : List ℕ) (table : IsTable xs) where
  pub table_rises : IsNonDecreasingBy (λ r. r) xs
  table_rises i j d h within =
      let inside : j < count = omega (arith, table.size) in
      omega (arith, table.entry i d (omega arith), table.entry j d inside, rising_to i j h inside)

  module _ (limit n : ℕ) where
    pub parted_at : n ≤ length xs → IsPartitionPoint (λ y. ltb y limit ≡ true) (λ y. ltb y limit ≡ false) xs n → Parted limit n
    parted_at h (below, from) = record {
      within = omega (arith, table.size);
      before = λ k l. subst (λ r. r < limit) (table.entry k 0 (omega (arith, table.size))) (ltb-true _ _ (below k 0 (omega arith) l));
      from = λ k l inside. subst (λ r. limit ≤ r) (table.entry k 0 inside) (ltb-false _ _ (from k 0 l (omega (arith, table.size))));
    }

    pub last_is_greatest : Parted limit n → slice_get (take n xs) (length (take n xs) - 1) ≡ greatest_below limit
    last_is_greatest parted =
        let size : length (take n xs) ≡ n = omega (arith, length-take n xs, table.size, parted.within) in
        rw size
        (⊎_elim
        (λ (some : 0 < n).
        slice_get-get_or (take n xs) (n - 1) 0 (omega (arith, size))
        ∙ ap Some (get_or-take n xs (n - 1) 0 (omega arith) ∙ table.entry (n - 1) 0 (omega (arith, parted.within)))
        ∙ sym (greatest_at limit n parted some))
        (λ (none : n ≤ 0). slice_get_past (take n xs) (n - 1) (omega (arith, size)) ∙ sym (none_is_below limit n parted (omega arith)))
        (cases_lt 0 n))

    pub entry_is_least : Parted limit n → (o : Option (Bor ℕ)) → IsItemAt xs n o → option_copied o ≡ least_from limit
    entry_is_least parted None item = sym (none_is_from limit n parted (omega (arith, table.size, item.3)))
    entry_is_least parted (Some x) item =
        let inside : n < count = omega (arith, table.size, item.3.0) in
        ap Some (item.3.1 0 ∙ table.entry n 0 inside) ∙ sym (least_at limit n parted inside)
