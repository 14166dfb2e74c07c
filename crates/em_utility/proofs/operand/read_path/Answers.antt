use Rattle.em_view.proofs.Performing.{then, leave, finish}
use Rattle.em_utility.specs.Operands.{read_path}
use Rattle.em_utility.proofs.Trying.{named_by}
use Rattle.em_utility.proofs.operand.read_path.Goals as goal

pub returns-in_err-body : goal.returns-in_err-body
unfolding read_path
returns-in_err-body g c = leave _ c.from_residual.ensures.1 (named_by _ c.in_err-body.ensures c.content.ensures.performs)

pub returns-in-Some : goal.returns-in-Some
unfolding read_path
returns-in-Some g c = then _ (named_by _ c.in_ok-body.ensures c.content.ensures.performs) (rw c.in-Some.is finish)

pub returns-in-None : goal.returns-in-None
unfolding read_path
returns-in-None g c = then _ (named_by _ c.in_ok-body.ensures c.content.ensures.performs) (rw c.in-None.is c.not_read.ensures)
