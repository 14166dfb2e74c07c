use Rattle.em_tree.proofs.Resolving.{way_twice}
use Rattle.em_tree.proofs.laws.law_way_twice.Goals as goal

pub returns : goal.returns
returns c = way_twice
