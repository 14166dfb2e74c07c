use Rattle.em_view.proofs.Performing.{then, leave}
use Rattle.em_utility.specs.Operands.{not_read}
use Rattle.em_utility.proofs.Trying.{named_by, gave_error}
use Rattle.em_utility.proofs.operand.not_read.Goals as goal

pub returns-in_err-kind : goal.returns-in_err-kind
unfolding not_read
returns-in_err-kind g c = leave _ c.from_residual.ensures.1 (named_by _ c.in_err-kind.ensures c.kind.ensures.performs)

pub returns : goal.returns
unfolding not_read
returns g c = then _ (named_by _ c.in_ok-kind.ensures c.kind.ensures.performs) (gave_error (rw c.unread.ensures at c.fault.ensures))
