use Rattle.em_view.specs.Walking.{target}
use Rattle.em_view.proofs.Performing.{then, exit, leave, finish, refused}
use Rattle.em_view.proofs.desk.Desk.target.Goals as goal

pub returns-in_err-way-clause-performs : goal.returns-in_err-way-clause-performs
unfolding target
returns-in_err-way-clause-performs g c = leave _ c.from_residual.ensures.1 c.in_err-way.ensures.performs

pub returns-in-To-clause-performs : goal.returns-in-To-clause-performs
unfolding target
returns-in-To-clause-performs g c = then _ c.in_ok-way.ensures.performs (rw c.in-To.is (then _ finish finish))

pub returns-in-TooMany-clause-performs : goal.returns-in-TooMany-clause-performs
unfolding target
returns-in-TooMany-clause-performs g c = then _ c.in_ok-way.ensures.performs (rw c.in-TooMany.is (exit _ refused))

pub returns-in-Bad-clause-performs : goal.returns-in-Bad-clause-performs
unfolding target
returns-in-Bad-clause-performs g c = then _ c.in_ok-way.ensures.performs (rw c.in-Bad.is (exit _ refused))
