use Rattle.em_laws.proofs.Allowing.{link_kept}
use Rattle.em_laws.proofs.Linking.{links_cost, links_none, links_ok, links_text, links_text_cost, links_there, links_tree}
use Rattle.em_laws.proofs.desk.law_link.Goals as goal

pub returns-clause-text : goal.returns-clause-text
returns-clause-text c = links_text

pub returns-clause-text_cost : goal.returns-clause-text_cost
returns-clause-text_cost c = links_text_cost

pub returns-clause-ok : goal.returns-clause-ok
returns-clause-ok c = links_ok

pub returns-clause-tree : goal.returns-clause-tree
returns-clause-tree c = links_tree

pub returns-clause-kept : goal.returns-clause-kept
returns-clause-kept c = link_kept

pub returns-clause-cost : goal.returns-clause-cost
returns-clause-cost c = links_cost

pub returns-clause-none : goal.returns-clause-none
returns-clause-none c = links_none

pub returns-clause-there : goal.returns-clause-there
returns-clause-there c = links_there
