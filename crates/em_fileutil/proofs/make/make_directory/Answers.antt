use Rattle.em_utility.proofs.Trying.{named_s}
use Rattle.em_fileutil.proofs.make.make_directory.Goals as goal

pub returns-then-parents : goal.returns-then-parents
returns-then-parents g c = λ d. rw c.if-parents.true (rw c.bytes.ensures at (c.make_all.ensures d))

pub returns-else-parents : goal.returns-else-parents
returns-else-parents g c = λ d. rw c.if-parents.false (named_s _ c.tried.ensures c.make_dir.ensures.performs)
