-- What one event does to the credit of a slot that stays in service: an accepted frame of its flow takes its charge, a notice takes and gives nothing.
use Rattle.std.proofs.lemmas.Grind.{common_steps}
use Rattle.std.proofs.Common.{◌≡◌, ℕ, ◌+◌, ◌<◌, ◌≤◌, true, List, length, get_or, set, Some, None, Option, refl, arith}
use Rattle.settings.specs.declared.figures.Figures.{Figures}
use Rattle.rates.specs.Rule.{Rule}
use Rattle.limiters.specs.Act.{heard, may_pass}
use Rattle.limiters.specs.Bounds.{Within, credit_of}
use Rattle.limiters.specs.Place.{slots_by, sent_by}
use Rattle.limiters.specs.Step.{charge, full_credit}
use Rattle.limiters.specs.Table.{fits}
use Rattle.limiters.specs.declared.limiter.Identity.{Identity}
use Rattle.limiters.specs.declared.limiter.Limiter.{Limiter}
use Rattle.limiters.specs.declared.limiter.Limiter.TheVariants.{Free}

module _ (rule : Rule) (f : Figures) where
  pub full : (l : Limiter) → Within rule f l → credit_of l ≤ full_credit
  full l h = grind (arith, common_steps)

  heard_kept : (v j i : ℕ) (ls : List Limiter) → i < length ls → credit_of (get_or (set ls j (heard rule f v (get_or ls j Free))) i Free) ≡ credit_of (get_or ls i Free)
  heard_kept v j i ls inside = grind (arith, common_steps)

  -- a notice to any slot: one in service is not taken
  pub notice_kept : (who other : Identity) (v cursor i : ℕ) (ls : List Limiter) (o p : Option ℕ) → i < length ls → fits (Some who) (get_or ls i Free) ≡ true
      → credit_of (get_or (slots_by rule f other v cursor ls o p) i Free) ≡ credit_of (get_or ls i Free)
  notice_kept who other v cursor i ls (Some j) p inside serves = heard_kept v j i ls inside
  notice_kept who other v cursor i ls None (Some j) inside serves = grind (arith, common_steps)
  notice_kept who other v cursor i ls None None inside serves = refl

  -- a frame never adds
  pub frame_less : (n i : ℕ) (ls : List Limiter) (o : Option ℕ) → i < length ls → credit_of (get_or (sent_by rule f n ls o) i Free) ≤ credit_of (get_or ls i Free)
  frame_less n i ls o inside = grind (arith, common_steps)

  -- a frame that passes and leaves its limiter in service is charged in full
  pub frame_pays : (who : Identity) (n i : ℕ) (ls : List Limiter) → i < length ls → Within rule f (get_or ls i Free) → may_pass f n (get_or ls i Free) ≡ true
      → fits (Some who) (get_or (sent_by rule f n ls (Some i)) i Free) ≡ true → credit_of (get_or (sent_by rule f n ls (Some i)) i Free) + charge n ≤ credit_of (get_or ls i Free)
  frame_pays who n i ls inside h pass serves = grind (arith, common_steps)
