use Rattle.em_view.proofs.Performing.{finish}
use Rattle.em_textutil.proofs.Seeking.{asked_ok, asked_err}
use Rattle.em_textutil.proofs.expression.link_by.Goals as goal

pub returns-in-None : goal.returns-in-None
returns-in-None g c = rw c.in-None.is finish

pub returns-in_err-link-in-Some : goal.returns-in_err-link-in-Some
returns-in_err-link-in-Some g c = rw c.in-Some.is (asked_err c.from_residual.ensures.1 c.in_err-link-in-Some.ensures.performs)

pub returns-in_ok-link-in-Some : goal.returns-in_ok-link-in-Some
returns-in_ok-link-in-Some g c = rw c.in-Some.is (asked_ok c.in_ok-link-in-Some.ensures.performs)
