use Rattle.em_view.proofs.Doing.{then_s, leave_s}
use Rattle.em_utility.proofs.Trying.{named_s}
use Rattle.em_fileutil.proofs.Spotting.{given_s}
use Rattle.em_fileutil.specs.Copying.{target_at}
use Rattle.em_fileutil.proofs.copy.target_at.Goals as goal

pub returns-in_err-operand : goal.returns-in_err-operand
unfolding target_at
returns-in_err-operand g c = λ d. leave_s _ c.from_residual.ensures.1 (given_s _ c.in_err-operand.ensures)

pub returns-in_err-kind : goal.returns-in_err-kind
unfolding target_at
returns-in_err-kind g c = λ d. then_s _ (given_s _ c.in_ok-operand.ensures) (leave_s _ c.from_residual-in_err-kind.ensures.1 (named_s _ c.in_err-kind.ensures c.kind.ensures.performs))

pub returns : goal.returns
unfolding target_at
returns g c = λ d. then_s _ (given_s _ c.in_ok-operand.ensures) (then_s _ (named_s _ c.in_ok-kind.ensures c.kind.ensures.performs) (given_s _ c.target_by.ensures))
