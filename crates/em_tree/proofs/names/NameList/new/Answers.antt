use Rattle.em_tree.proofs.Naming.{IsNameList-none}
use Rattle.em_tree.proofs.names.NameList.new.Goals as goal

pub invariant_of-result : goal.invariant_of-result
invariant_of-result c = rw c.new.ensures.items IsNameList-none
