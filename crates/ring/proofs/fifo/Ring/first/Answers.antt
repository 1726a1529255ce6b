use Rattle.ring.specs.Standing.{standing_of}
use Rattle.ring.proofs.Turning.{popped_waiting, waiting_length}
use Rattle.ring.proofs.fifo.Ring.first.Goals as goal

pub returns : goal.returns
returns g c =
    let s = standing_of c.args.self.now in
    let m = c.args.memory.now in
    let head_in = c.args.self.now.head_in in
    let count_in = c.args.self.now.count_in in
    record {
      counted = waiting_length s m count_in c.requires.1;
      law = popped_waiting s m c.index-memory-self.result head_in count_in c.requires.0 c.requires.1 c.index-memory-self.is;
    }
