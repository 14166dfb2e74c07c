use Rattle.em_tree.proofs.Lawful.{IsTree-remove}
use Rattle.em_tree.proofs.laws.law_remove.Goals as goal

pub returns : goal.returns
returns c = IsTree-remove
