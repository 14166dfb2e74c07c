use Rattle.em_view.proofs.Doing.{then_s, leave_s}
use Rattle.em_fileutil.proofs.Spotting.{given_s}
use Rattle.em_fileutil.specs.Acts.{act_for}
use Rattle.em_fileutil.proofs.act.act_for.Goals as goal

pub returns-in_err-operand : goal.returns-in_err-operand
unfolding act_for
returns-in_err-operand g c = leave_s _ c.from_residual.ensures.1 (given_s _ c.in_err-operand.ensures)

pub returns : goal.returns
unfolding act_for
returns g c = then_s _ (given_s _ c.in_ok-operand.ensures) c.act_on.ensures
