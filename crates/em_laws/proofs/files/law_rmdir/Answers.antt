use Rattle.em_laws.proofs.Making.{rmdir_empty, rmdir_gone}
use Rattle.em_laws.proofs.Leaving.{rmdir_tree_law}
use Rattle.em_laws.proofs.files.law_rmdir.Goals as goal

pub returns-clause-empty : goal.returns-clause-empty
returns-clause-empty c = rmdir_empty

pub returns-clause-gone : goal.returns-clause-gone
returns-clause-gone c = rmdir_gone

pub returns-clause-tree : goal.returns-clause-tree
returns-clause-tree c = rmdir_tree_law
