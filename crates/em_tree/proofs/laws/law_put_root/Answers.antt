use Rattle.em_tree.proofs.Lawful.{IsTree-put_root}
use Rattle.em_tree.proofs.laws.law_put_root.Goals as goal

pub returns : goal.returns
returns c = IsTree-put_root
