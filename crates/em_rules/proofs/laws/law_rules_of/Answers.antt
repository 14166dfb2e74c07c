use Rattle.em_rules.proofs.Lawful.{numbers_filtered}
use Rattle.em_rules.proofs.laws.law_rules_of.Goals as goal

pub returns : goal.returns
returns c = numbers_filtered 0
