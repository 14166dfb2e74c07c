use Rattle.em_view.proofs.Performing.{then, leave, finish}
use Rattle.em_pathname.proofs.walk.look_up_found.Goals as goal

-- the name is no path
pub returns-in_default-clause-performs : goal.returns-in_default-clause-performs
returns-in_default-clause-performs g c = rw c.in_default.is (rw c.new.ensures finish)

pub returns-in_err-kind-clause-performs : goal.returns-in_err-kind-clause-performs
returns-in_err-kind-clause-performs g c = rw c.in-Some.is (leave _ c.from_residual.ensures.1 c.in_err-kind.ensures.performs)

pub returns-clause-performs : goal.returns-clause-performs
returns-clause-performs g c = rw c.in-Some.is (then _ c.in_ok-kind.ensures.performs (rw c.in_ok-present.ensures finish))
