use Rattle.em_laws.proofs.Allowing.{make_cost, make_kept, make_ok, make_tree}
use Rattle.em_laws.proofs.desk.law_make.Goals as goal

pub returns-clause-ok : goal.returns-clause-ok
returns-clause-ok c = make_ok

pub returns-clause-tree : goal.returns-clause-tree
returns-clause-tree c = make_tree

pub returns-clause-kept : goal.returns-clause-kept
returns-clause-kept c = make_kept

pub returns-clause-cost : goal.returns-clause-cost
returns-clause-cost c = make_cost
