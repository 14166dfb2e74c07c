use Rattle.em_rules.proofs.Lawful.{undotted_whole, undotted_plain, undotted_again}
use Rattle.em_rules.proofs.laws.law_undotted.Goals as goal

pub returns : goal.returns
returns c = record { whole = undotted_whole; plain = undotted_plain; again = undotted_again }
