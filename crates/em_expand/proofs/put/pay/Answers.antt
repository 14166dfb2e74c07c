use Rattle.em_expand.specs.Desks.{of_desk, pay}
use Rattle.em_view.proofs.Doing.{below_ok}
use Rattle.em_expand.proofs.Making.{below_leave}
use Rattle.em_expand.proofs.put.pay.Goals as goal

pub returns-in_err-take : goal.returns-in_err-take
unfolding pay
returns-in_err-take g c = λ s. below_leave c.from_residual.ensures.1 c.in_err-take.ensures.performs

pub returns : goal.returns
unfolding pay
returns g c = λ s. below_ok of_desk c.in_ok-take.ensures.performs
