use Rattle.em_laws.proofs.Allowing.{place_cost, place_kept, place_ok, place_tree}
use Rattle.em_laws.proofs.desk.law_place.Goals as goal

pub returns-clause-ok : goal.returns-clause-ok
returns-clause-ok c = place_ok

pub returns-clause-tree : goal.returns-clause-tree
returns-clause-tree c = place_tree

pub returns-clause-kept : goal.returns-clause-kept
returns-clause-kept c = place_kept

pub returns-clause-cost : goal.returns-clause-cost
returns-clause-cost c = place_cost
