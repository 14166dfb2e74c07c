use Rattle.em_view.proofs.Performing.{then, leave, finish}
use Rattle.em_implicit.proofs.there.DeskThere.is_there.Goals as goal

pub returns-in_err-kind-clause-asked : goal.returns-in_err-kind-clause-asked
returns-in_err-kind-clause-asked g c = leave _ c.from_residual.ensures.1 c.in_err-kind.ensures.performs

pub returns-clause-asked : goal.returns-clause-asked
returns-clause-asked g c = then _ c.in_ok-kind.ensures.performs (rw c.is_something.ensures finish)
