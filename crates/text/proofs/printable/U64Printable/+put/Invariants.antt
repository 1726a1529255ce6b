use Rattle.text.proofs.printable.U64Printable.+put.Given as goal

abbrev pub decreases-put : goal.decreases-put
decreases-put l = l.self.now
