-- Runs: one more moment, a run in two parts, and what each step keeps over all of them.
use Rattle.std.proofs.lemmas.Grind.{common_steps}
use Rattle.std.proofs.Common.{◌≡◌, Bool, true, List, [], ◌∷◌, ◌++◌, sym, refl, ◌∙◌, subst, arith}
use Rattle.std.specs.List.{AllByRecursion}
use Rattle.tally.specs.Runs.{Moment, Open, Step, Run, Definite}
use Rattle.tally.specs.Sound.{Sound}
use Rattle.tally.specs.Steps.{Asked, answer_to, tally_after}
use Rattle.tally.specs.Tally.{Constants, Tally}
use Rattle.tally.proofs.Soundness.{sound_step}

-- The moment of a call, as the rules make it.
abbrev pub moment : Constants → Tally → Asked → Bool → Moment
moment K t a sampled = record { before = t; asked = a; answer = answer_to K t a sampled; after = tally_after K t a sampled }

-- what the rules' own moment has, every step has
pub at_step : (K : Constants) (P : Moment → Type 0) (m : Moment) (s : Step K m) → P (moment K m.before m.asked s.sampled) → P m
at_step K P m s h = grind (arith, common_steps)

pub run_push : (K : Constants) (ms : List Moment) (t u : Tally) (m : Moment) → Run K t ms u → m.before ≡ u → Step K m → Run K t (ms ++ (m ∷ [])) m.after
run_push K [] t u m run from step = (from ∙ sym run, step, refl)
run_push K (n ∷ ms) t u m run from step = (run.0, run.1, run_push K ms n.after u m run.2 from step)

pub run_split : (K : Constants) (xs ys : List Moment) (t u : Tally) → Run K t (xs ++ ys) u → (v : Tally) × Run K t xs v × Run K v ys u
run_split K [] ys t u run = (t, refl, run)
run_split K (m ∷ xs) ys t u run = let rest = run_split K xs ys m.after u run.2 in (rest.0, (run.0, run.1, rest.1), rest.2)

open_sampled : (K : Constants) (t : Tally) (a : Asked) → Open K t a true
open_sampled K t a = grind (arith, common_steps)

pub definite : (K : Constants) → Definite K
definite K = record {
  some_step = λ t a. (moment K t a true, refl, refl, record { sampled = true; open_choice = open_sampled K t a; answers = refl; moves = refl });
  one_step = λ m n p q before asked sampled. (
    p.answers ∙ (λ i. answer_to K (before i) (asked i) (sampled i)) ∙ sym q.answers,
    p.moves ∙ (λ i. tally_after K (before i) (asked i) (sampled i)) ∙ sym q.moves,
  );
}

pub moment_sound : (K : Constants) (m : Moment) → Step K m → Sound K m.before → Sound K m.after
moment_sound K m s sound = subst (Sound K) (sym s.moves) (sound_step K m.before m.asked s.sampled s.open_choice sound)

pub run_sound : (K : Constants) (ms : List Moment) (t u : Tally) → Sound K t → Run K t ms u → Sound K u
run_sound K [] t u sound run = subst (Sound K) run sound
run_sound K (m ∷ ms) t u sound run = run_sound K ms m.after u (moment_sound K m run.1 (subst (Sound K) (sym run.0) sound)) run.2

-- what each step has from what is sound, each moment of a run has
pub run_all : (K : Constants) (P : Moment → Type 0) → ((t : Tally) (a : Asked) (sampled : Bool) → Sound K t → P (moment K t a sampled)) → (ms : List Moment) (t u : Tally) → Sound K t → Run K t ms u → AllByRecursion P ms
run_all K P each [] t u sound run = tt
run_all K P each (m ∷ ms) t u sound run =
    let start = subst (Sound K) (sym run.0) sound in
    (at_step K P m run.1 (each m.before m.asked run.1.sampled start), run_all K P each ms m.after u (moment_sound K m run.1 start) run.2)
