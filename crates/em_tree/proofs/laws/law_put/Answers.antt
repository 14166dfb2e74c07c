use Rattle.em_tree.proofs.Lawful.{IsTree-put}
use Rattle.em_tree.proofs.laws.law_put.Goals as goal

pub returns : goal.returns
returns c = IsTree-put
