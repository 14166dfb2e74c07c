use Rattle.std.proofs.Common.{refl}
use Rattle.em_view.specs.Walking.{resolve}
use Rattle.em_view.proofs.Performing.{ran_out}
use Rattle.em_view.proofs.desk.Desk.resolve.Goals as goal

pub returns-in_err-q-clause-performs : goal.returns-in_err-q-clause-performs
returns-in_err-q-clause-performs g c = ran_out _ refl c.from_residual.ensures.1

pub returns-clause-performs : goal.returns-clause-performs
unfolding resolve
returns-clause-performs g c = rw c.in_ok-q.ensures at c.resolve_from.ensures.performs
