use Rattle.em_laws.proofs.Allowing.{remove_cost, remove_kept, remove_ok, remove_tree}
use Rattle.em_laws.proofs.desk.law_remove.Goals as goal

pub returns-clause-ok : goal.returns-clause-ok
returns-clause-ok c = remove_ok

pub returns-clause-tree : goal.returns-clause-tree
returns-clause-tree c = remove_tree

pub returns-clause-kept : goal.returns-clause-kept
returns-clause-kept c = remove_kept

pub returns-clause-cost : goal.returns-clause-cost
returns-clause-cost c = remove_cost
