use Rattle.rungs.proofs.RungLaws.{rising}
use Rattle.rates.proofs.rung_rule.RungRule.new.Goals as goal

pub returns : goal.returns
returns c = record { answer = c.new.ensures.answer; law = rising }
