use Rattle.em_view.proofs.Doing.{finish_s}
use Rattle.em_utility.proofs.Trying.{named_s}
use Rattle.em_fileutil.proofs.copy.leave_source.Goals as goal

pub returns-in-Copy : goal.returns-in-Copy
returns-in-Copy g c = λ d. rw c.in-Copy.is finish_s

pub returns-in-CopyTree : goal.returns-in-CopyTree
returns-in-CopyTree g c = λ d. rw c.in-CopyTree.is finish_s

pub returns-in-Move : goal.returns-in-Move
returns-in-Move g c = λ d. rw c.in-Move.is (named_s _ c.tried.ensures c.remove.ensures.performs)
