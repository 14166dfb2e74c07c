use Rattle.em_view.specs.Rows.{pay}
use Rattle.em_view.proofs.Performing.{then, leave}
use Rattle.em_view.proofs.desk.Desk.pay.Goals as goal

pub returns-in_err-take-clause-performs : goal.returns-in_err-take-clause-performs
unfolding pay
returns-in_err-take-clause-performs g c = leave _ c.from_residual.ensures.1 c.in_err-take.ensures.performs

pub returns-clause-performs : goal.returns-clause-performs
unfolding pay
returns-clause-performs g c = then _ c.in_ok-take.ensures.performs c.take-2.ensures.performs
