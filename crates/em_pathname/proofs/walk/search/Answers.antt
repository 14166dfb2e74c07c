use Rattle.em_view.proofs.Performing.{then, leave, finish}
use Rattle.em_pathname.specs.Walking.{search}
use Rattle.em_pathname.proofs.walk.search.Goals as goal

pub returns-in_err-names-clause-performs : goal.returns-in_err-names-clause-performs
unfolding search
returns-in_err-names-clause-performs g c = leave _ c.from_residual.ensures.1 c.in_err-names.ensures.performs

pub returns-clause-performs : goal.returns-clause-performs
unfolding search
returns-clause-performs g c = then _ c.in_ok-names.ensures.performs (rw c.in_ok-listed.ensures finish)
