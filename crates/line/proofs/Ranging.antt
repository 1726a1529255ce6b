-- A list of calls, one call more.
use Rattle.std.proofs.lemmas.Grind.{common_steps}
use Rattle.std.proofs.Common.{◌≡◌, ℕ, ◌+◌, ◌<◌, List, [], ◌∷◌, ◌++◌, map, length, get_or, take, drop, set, Result, sym, refl, ap, ◌∙◌, subst, arith}
use Rattle.std.proofs.lemmas.List.{map_push, map_more, take_more_set}
use Rattle.rates.specs.declared.rate_rule.RateRule.{Ghosts as RuleGhosts}
use Rattle.notifiers.specs.declared.notifier.Notifier.{Ghosts as NotifierGhosts}
use Rattle.tally.specs.Runs.{Moment}
use Rattle.tally.specs.Steps.{Asked, tally_after}
use Rattle.tally.specs.Tally.{Constants, Tally}
use Rattle.tally.specs.Saying.{said}
use Rattle.tally.specs.declared.call.Answer.{Answer}
use Rattle.tally.specs.declared.fault.CallFault.{CallFault}
use Rattle.tally.specs.declared.call.Call.{Call}
use Rattle.tally.proofs.Walking.{run_push}
use Rattle.line.specs.Holds.{Follows}
use Rattle.line.specs.Serving.{Ran, Runs, asked_in, answer_in}
use Rattle.line.specs.State.{State}

module _ {R N : Type 0} (rr : RuleGhosts R) (nn : NotifierGhosts N) where
  pub ran_none : (s : State R N) → Runs rr nn s [] [] s
  ran_none s K t h = grind (arith, common_steps)

  one_more :
      (K : Constants) (t : Tally) (u v : State R N) (asked : List Asked) (answers : List (Result Answer CallFault)) (a : Asked) (r : Result Answer CallFault) → Ran rr nn K t asked answers u → Follows rr nn u a r v
      → Ran rr nn K t (asked ++ (a ∷ [])) (answers ++ (r ∷ [])) v
  one_more K t u v asked answers a r before follows =
      let next = follows K before.last before.holds in
      let m : Moment = record { before = before.last; asked = a; answer = r; after = tally_after K before.last a next.0 } in
      record {
        moments = before.moments ++ (m ∷ []);
        last = m.after;
        run = run_push K before.moments t before.last m before.run refl (record { sampled = next.0; open_choice = next.1; answers = next.2; moves = refl });
        asks = map_push asked_in before.moments m ∙ ap (λ l. l ++ (a ∷ [])) before.asks;
        told = map_push answer_in before.moments m ∙ ap (λ l. l ++ (r ∷ [])) before.told;
        holds = next.3;
      }

  pub ran_more :
      (s u v : State R N) (asked asked' : List Asked) (answers answers' : List (Result Answer CallFault)) (a : Asked) (r : Result Answer CallFault) → Runs rr nn s asked answers u → Follows rr nn u a r v
      → asked' ≡ asked ++ (a ∷ []) → answers' ≡ answers ++ (r ∷ []) → Runs rr nn s asked' answers' v
  ran_more s u v asked asked' answers answers' a r before follows asks told =
      subst (λ l. Runs rr nn s l answers' v) (sym asks) (subst (λ l. Runs rr nn s (asked ++ (a ∷ [])) l v) (sym told) (λ K t h. one_more K t u v asked answers a r (before K t h) follows))

  -- the call at a place, with its answer written there
  pub ran_next :
      (s u v : State R N) (calls : List Call) (answers : List (Result Answer CallFault)) (i : ℕ) (d : Call) (r : Result Answer CallFault) → i < length calls → i < length answers → Runs rr nn s (map said (take i calls)) (take i answers) u
      → Follows rr nn u (said (get_or calls i d)) r v → Runs rr nn s (map said (take (i + 1) calls)) (take (i + 1) (set answers i r)) v
  ran_next s u v calls answers i d r in-calls in-answers before follows =
      ran_more s u v (map said (take i calls)) (map said (take (i + 1) calls)) (take i answers) (take (i + 1) (set answers i r)) (said (get_or calls i d)) r before follows (map_more said calls i d in-calls)
      (take_more_set answers i r in-answers)

-- the places behind it are as they were
pub rest_next : (answers before : List (Result Answer CallFault)) (i : ℕ) (r : Result Answer CallFault) → drop i answers ≡ drop i before → drop (i + 1) (set answers i r) ≡ drop (i + 1) before
rest_next answers before i r same = grind (arith, common_steps)
