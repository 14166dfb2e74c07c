use Rattle.em_laws.proofs.Filing.{mv_bytes, mv_gone, mv_stamp}
use Rattle.em_laws.proofs.Leaving.{mv_tree_law}
use Rattle.em_laws.proofs.files.law_mv.Goals as goal

pub returns-clause-bytes : goal.returns-clause-bytes
returns-clause-bytes c = mv_bytes

pub returns-clause-stamp : goal.returns-clause-stamp
returns-clause-stamp c = mv_stamp

pub returns-clause-gone : goal.returns-clause-gone
returns-clause-gone c = mv_gone

pub returns-clause-tree : goal.returns-clause-tree
returns-clause-tree c = mv_tree_law
