use Rattle.std.proofs.Common.{◌≡◌, ◌<◌, [], ◌∷◌, ◌++◌, length, set, sym, subst}
use Rattle.ring.specs.Standing.{standing_of, pushed}
use Rattle.ring.specs.Held.{waiting}
use Rattle.ring.proofs.Turning.{pushed_waiting, tail_within}
use Rattle.ring.proofs.fifo.Ring.free_place.Goals as goal

pub returns : goal.returns
returns g c =
    let s = standing_of c.args.self.now in
    let m = c.args.memory.now in
    let head_in = c.args.self.now.head_in in
    let place = sym c.tail.ensures.answer in
    record {
      answer = c.tail.ensures.answer;
      within = subst (λ p. p < length m) place (tail_within s m head_in c.requires.0 c.requires.1);
      law = λ item. subst (λ p. waiting (pushed s) (set m p item) ≡ waiting s m ++ (item ∷ [])) place (pushed_waiting s m item head_in c.requires.0 c.requires.1);
    }
