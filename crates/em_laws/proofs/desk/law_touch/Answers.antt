use Rattle.em_laws.proofs.Allowing.{touch_cost, touch_kept, touch_ok, touch_tree}
use Rattle.em_laws.proofs.desk.law_touch.Goals as goal

pub returns-clause-ok : goal.returns-clause-ok
returns-clause-ok c = touch_ok

pub returns-clause-tree : goal.returns-clause-tree
returns-clause-tree c = touch_tree

pub returns-clause-kept : goal.returns-clause-kept
returns-clause-kept c = touch_kept

pub returns-clause-cost : goal.returns-clause-cost
returns-clause-cost c = touch_cost
