-- Which frames are accepted, by what the table answers.
use Rattle.std.proofs.lemmas.Grind.{common_steps}
use Rattle.std.proofs.Common.{◌≡◌, ℕ, Bool, true, cond, Some, None, Ok, Option, sym, ap, ◌∙◌, arith}
use Rattle.rates.specs.declared.rate_rule.RateRule.{Ghosts as RuleGhosts}
use Rattle.notifiers.specs.Meter.{answered}
use Rattle.notifiers.specs.declared.notifier.Notifier.{Ghosts as NotifierGhosts}
use Rattle.notifiers.specs.declared.shown.Shown.{Shown}
use Rattle.notifiers.specs.declared.shown.Showing.{Showing}
use Rattle.limiters.specs.Pass.{passes, marked}
use Rattle.limiters.specs.declared.limiter.Identity.{Identity}
use Rattle.tally.specs.Offering.{unless, posted}
use Rattle.line.specs.Offer.{has_room, pages_more, refusal, shown, showing, answer}
use Rattle.line.specs.State.{State}

chosen_some : (b : Bool) (m k : ℕ) → cond b (Some m) None ≡ Some k → (b ≡ true) × (k ≡ m)
chosen_some b m k e = grind (arith, common_steps)

module _ {R N : Type 0} (rr : RuleGhosts R) (nn : NotifierGhosts N) (s : State R N) (who : Identity) (n : ℕ) where
  abbrev mark_now : Option ℕ
  mark_now = marked (rr.meaning s.regime.rule) s.regime.settings.figures n who s.slots

  abbrev may : Bool
  may = passes s.regime.settings.figures n who s.slots

  -- an accepted frame's mark, pages and showing are those that the answer names
  pub let_in :
      (mark pages : ℕ) (shows : Showing) → refusal rr nn s who n ≡ None → mark_now ≡ Some mark → pages ≡ pages_more s.pages n
      → shows ≡ answered (nn.meter s.notifier) (record { pages = pages; length = n; mark = mark }) (nn.samples s.notifier (record { pages = pages; length = n; mark = mark }))
      → Ok (posted (has_room s.wire_ring) shows) ≡ answer rr nn s who n
  let_in mark pages shows none marks counts sees =
      let looks : ◌≡◌ {A = Shown} (record { pages = pages; length = n; mark = mark }) (shown rr nn s who n) = λ i. record { pages = counts i; length = n; mark = (chosen_some may _ mark marks).1 i } in
      let says = sees ∙ ap (λ x. answered (nn.meter s.notifier) x (nn.samples s.notifier x)) looks in
      ap (λ x. Ok (posted (has_room s.wire_ring) x)) says ∙ ap (λ o. unless o (posted (has_room s.wire_ring) (showing rr nn s who n))) (sym none)
