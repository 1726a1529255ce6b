-- What a call keeps of the limiters: how many, and what holds of each.
use Rattle.std.proofs.lemmas.Grind.{common_steps}
use Rattle.std.proofs.Common.{◌≡◌, ℕ, zero, suc, ◌<◌, ◌≤◌, List, map, length, Option, arith}
use Rattle.std.proofs.ByRecursion.{All-map, All-weaker}
use Rattle.std.specs.List.{AllByRecursion}
use Rattle.settings.specs.declared.figures.Figures.{Figures}
use Rattle.rates.specs.Rule.{Rule}
use Rattle.limiters.specs.Act.{heard, sent, taken}
use Rattle.limiters.specs.Pass.{held_of, at_slot}
use Rattle.limiters.specs.Place.{slots_by, cursor_by, sent_by}
use Rattle.limiters.specs.Wait.{tick, micros}
use Rattle.limiters.specs.declared.limiter.Identity.{Identity}
use Rattle.limiters.specs.declared.limiter.Limiter.{Limiter}
use Rattle.limiters.specs.declared.limiter.Limiter.TheVariants.{Free}

-- what holds of a free limiter and of each in the table holds of what stands anywhere
module _ (P : Limiter → Type 0) (free : P Free) where
  pub at_found : (ls : List Limiter) (o : Option ℕ) → AllByRecursion P ls → P (at_slot ls o)
  at_found ls o all = grind (arith, common_steps)

  module _ (rule : Rule) (f : Figures) where
    pub all_sent : (n : ℕ) → ((l : Limiter) → P l → P (sent rule f n l)) → (ls : List Limiter) (o : Option ℕ) → AllByRecursion P ls → AllByRecursion P (sent_by rule f n ls o)
    all_sent n keeps ls o all = grind (arith, common_steps)

    pub all_waited : (n : ℕ) → ((l : Limiter) → P l → P (micros rule f n l)) → (ls : List Limiter) → AllByRecursion P ls → AllByRecursion P (map (micros rule f n) ls)
    all_waited n keeps ls all = All-map P (micros rule f n) ls (All-weaker P (λ l. P (micros rule f n l)) keeps ls all)

    pub all_heard : (who : Identity) (v cursor : ℕ) → ((l : Limiter) → P l → P (taken f who l)) → ((l : Limiter) → P l → P (heard rule f v l))
        → (ls : List Limiter) (o p : Option ℕ) → AllByRecursion P ls → AllByRecursion P (slots_by rule f who v cursor ls o p)
    all_heard who v cursor takes keeps ls o p all = grind (arith, common_steps)

module _ (rule : Rule) (f : Figures) where
  -- the table stays as long, and the cursor inside it
  pub long_heard : (who : Identity) (v cursor : ℕ) (ls : List Limiter) (o p : Option ℕ) → length (slots_by rule f who v cursor ls o p) ≡ length ls
  long_heard who v cursor ls o p = grind (arith, common_steps)

  pub long_sent : (n : ℕ) (ls : List Limiter) (o : Option ℕ) → length (sent_by rule f n ls o) ≡ length ls
  long_sent n ls o = grind (arith, common_steps)

  pub cursor_heard : (who : Identity) (v cursor : ℕ) (ls : List Limiter) (o p : Option ℕ) → cursor < 64 → cursor_by rule f who v cursor ls o p < 64
  cursor_heard who v cursor ls o p h = grind (arith, common_steps)

-- a held value stays at most 63
abbrev pub Low : Limiter → Type 0
Low l = held_of l ≤ 63

module _ (rule : Rule) (f : Figures) where
  pub taken_low : (who : Identity) (l : Limiter) → Low l → Low (taken f who l)
  taken_low who l low = grind (arith, common_steps)

  pub heard_low : (v : ℕ) → v ≤ 63 → (l : Limiter) → Low l → Low (heard rule f v l)
  heard_low v few l low = grind (arith, common_steps)

  pub sent_low : (n : ℕ) (l : Limiter) → Low l → Low (sent rule f n l)
  sent_low n l low = grind (arith, common_steps)

  tick_low : (l : Limiter) → Low l → Low (tick rule f l)
  tick_low l low = grind (arith, common_steps)

  pub waited_low : (n : ℕ) (l : Limiter) → Low l → Low (micros rule f n l)
  unfolding micros
  waited_low zero l low = low
  waited_low (suc n) l low = waited_low n (tick rule f l) (tick_low l low)
