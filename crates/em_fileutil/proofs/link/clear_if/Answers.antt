use Rattle.em_view.proofs.Doing.{finish_s}
use Rattle.em_fileutil.proofs.link.clear_if.Goals as goal

pub returns-then-force : goal.returns-then-force
returns-then-force g c = λ d. rw c.if-force.true (c.clear.ensures d)

pub returns-else-force : goal.returns-else-force
returns-else-force g c = λ d. rw c.if-force.false finish_s
