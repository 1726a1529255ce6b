use Rattle.text.proofs.ReadBack.{read_back}
use Rattle.text.proofs.writing.write.Goals as goal

pub returns-in_err-ok_or-clause-law : goal.returns-in_err-ok_or-clause-law
returns-in_err-ok_or-clause-law g c = read_back

pub returns-clause-law : goal.returns-clause-law
returns-clause-law g c = read_back
