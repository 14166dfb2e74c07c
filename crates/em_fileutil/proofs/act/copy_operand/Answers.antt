use Rattle.em_view.proofs.Doing.{then_s, leave_s}
use Rattle.em_fileutil.proofs.Spotting.{given_s}
use Rattle.em_fileutil.specs.Acts.{copy_operand}
use Rattle.em_fileutil.proofs.act.copy_operand.Goals as goal

pub returns-in_err-target : goal.returns-in_err-target
unfolding copy_operand
returns-in_err-target g c = leave_s _ c.from_residual.ensures.1 (given_s _ c.in_err-target.ensures)

pub returns : goal.returns
unfolding copy_operand
returns g c = then_s _ (given_s _ c.in_ok-target.ensures) c.copy_top.ensures
