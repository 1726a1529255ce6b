-- No event gives a flow a second limiter.
use Rattle.std.proofs.Common.{◌≡◌, ℕ, zero, suc, ◌+◌, ◌<◌, true, false, List, [], ◌∷◌, map, length, get_or, set, Some, None, Option, sym, refl, ap, ◌∙◌, arith}
use Rattle.std.proofs.lemmas.List.{take_all, get_or-map}
use Rattle.std.proofs.lemmas.Grind.{common_steps}
use Rattle.settings.specs.declared.figures.Figures.{Figures}
use Rattle.rates.specs.Rule.{Rule}
use Rattle.limiters.specs.declared.limiter.Identity.{Identity}
use Rattle.limiters.specs.declared.limiter.Limiter.{Limiter}
use Rattle.limiters.specs.declared.limiter.Limiter.TheVariants.{Free, InService}
use Rattle.limiters.specs.Act.{heard, sent, taken}
use Rattle.limiters.specs.Place.{slots_by, sent_by}
use Rattle.limiters.specs.Single.{Single, StaysSingle}
use Rattle.limiters.specs.Table.{fits, first_in, serving, first_free}
use Rattle.limiters.specs.Wait.{tick, micros}

-- what a slot serves after, it served before
abbrev Faithful : Limiter → Limiter → Type 0
Faithful before after = (who : Identity) → fits (Some who) after ≡ true → fits (Some who) before ≡ true

-- one slot changes
single_set : (ls : List Limiter) (i : ℕ) (x : Limiter) → Faithful (get_or ls i Free) x → Single ls → Single (set ls i x)
single_set ls i x faithful single who j k inj ink serves-j serves-k = grind (arith, common_steps, faithful who, single who j k)

-- a search that finds nothing passed every slot
none_fits : (s : Option Identity) (xs : List Limiter) (k i : ℕ) → first_in s i xs ≡ None → k < length xs → fits s (get_or xs k Free) ≡ false
unfolding first_in
none_fits s [] k i e h = absurd (omega arith)
none_fits s (x ∷ xs) zero i e h = grind (arith, common_steps)
none_fits s (x ∷ xs) (suc k) i e h = grind (arith, common_steps, none_fits s xs k (i + 1))

none_serves : (who : Identity) (ls : List Limiter) → length ls ≡ 64 → serving who ls ≡ None → (k : ℕ) → k < length ls → fits (Some who) (get_or ls k Free) ≡ false
none_serves who ls full e k inside = none_fits (Some who) ls k 0 (ap (first_in (Some who) 0) (sym (take_all 64 ls (omega arith))) ∙ e) inside

module _ (rule : Rule) (f : Figures) where
  hear_faithful : (v : ℕ) (l : Limiter) → Faithful l (heard rule f v l)
  hear_faithful v Free who = λ e. e
  hear_faithful v (InService r) who = grind (arith, common_steps)

  send_faithful : (n : ℕ) (l : Limiter) → Faithful l (sent rule f n l)
  send_faithful n Free who = λ e. e
  send_faithful n (InService r) who = grind (arith, common_steps)

  tick_faithful : (l : Limiter) → Faithful l (tick rule f l)
  tick_faithful Free who = λ e. e
  tick_faithful (InService r) who = grind (arith, common_steps)

  wait_faithful : (n : ℕ) (l : Limiter) → Faithful l (micros rule f n l)
  unfolding micros
  wait_faithful zero l who e = e
  wait_faithful (suc n) l who e = tick_faithful l who (wait_faithful n (tick rule f l) who e)

  by_wait : (n : ℕ) (ls : List Limiter) → Single ls → Single (map (micros rule f n) ls)
  by_wait n ls single who j k inj ink serves-j serves-k =
      grind (arith, common_steps, get_or-map (micros rule f n) ls j Free Free, get_or-map (micros rule f n) ls k Free Free, wait_faithful n, single who j k)

  by_frame : (n : ℕ) (ls : List Limiter) (o : Option ℕ) → Single ls → Single (sent_by rule f n ls o)
  by_frame n ls None single = single
  by_frame n ls (Some i) single = single_set ls i (sent rule f n (get_or ls i Free)) (send_faithful n (get_or ls i Free)) single

  -- a slot that is taken for what no slot serves
  single_taken : (who : Identity) (i : ℕ) (ls : List Limiter) → ((k : ℕ) → k < length ls → fits (Some who) (get_or ls k Free) ≡ false) → Single ls → Single (set ls i (taken f who (get_or ls i Free)))
  single_taken who i ls none single other j k inj ink serves-j serves-k = grind (arith, common_steps, none j, none k, single other j k)

  by_notice : (who : Identity) (v cursor : ℕ) (ls : List Limiter) (o p : Option ℕ) → o ≡ serving who ls → length ls ≡ 64 → Single ls → Single (slots_by rule f who v cursor ls o p)
  by_notice who v cursor ls (Some i) p is full single = single_set ls i (heard rule f v (get_or ls i Free)) (hear_faithful v (get_or ls i Free)) single
  by_notice who v cursor ls None (Some i) is full single =
      let ms = set ls i (taken f who (get_or ls i Free)) in
      single_set ms i (heard rule f v (get_or ms i Free)) (hear_faithful v (get_or ms i Free)) (single_taken who i ls (none_serves who ls full (sym is)) single)
  by_notice who v cursor ls None None is full single = single

  pub stays_single : StaysSingle rule f
  stays_single = record {
    by_notice = λ who v cursor ls full single. by_notice who v cursor ls (serving who ls) (first_free cursor ls) refl full single;
    by_frame = λ who n ls single. by_frame n ls (serving who ls) single;
    by_wait = by_wait;
  }
