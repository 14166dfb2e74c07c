use Rattle.em_view.proofs.Doing.{finish_s}
use Rattle.em_utility.proofs.Trying.{named_s}
use Rattle.em_fileutil.proofs.make.touch_absent.Goals as goal

pub returns-then-create : goal.returns-then-create
returns-then-create g c = λ d. rw c.if-create.true (named_s _ c.tried.ensures c.put.ensures.performs)

pub returns-else-create : goal.returns-else-create
returns-else-create g c = λ d. rw c.if-create.false finish_s
