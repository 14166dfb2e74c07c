use Rattle.em_gram.proofs.Verdicts.{tree_or_fault}
use Rattle.em_gram.proofs.laws.law_tree_or_fault.Goals as goal

pub returns : goal.returns
returns c = tree_or_fault
