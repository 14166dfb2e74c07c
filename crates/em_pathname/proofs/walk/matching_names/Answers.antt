use Rattle.std.proofs.Common.{refl}
use Rattle.em_view.proofs.Performing.{then, leave, finish, ran_out}
use Rattle.em_pathname.specs.Walking.{matching_names}
use Rattle.em_pathname.proofs.walk.matching_names.Goals as goal

pub returns-in_err-parts-clause-performs : goal.returns-in_err-parts-clause-performs
returns-in_err-parts-clause-performs g c = ran_out _ refl c.from_residual.ensures.1

pub returns-in_err-start-clause-performs : goal.returns-in_err-start-clause-performs
returns-in_err-start-clause-performs g c = ran_out _ refl c.from_residual-in_err-start.ensures.1

pub returns-in_err-found-clause-performs : goal.returns-in_err-found-clause-performs
unfolding matching_names
returns-in_err-found-clause-performs g c = leave _ c.from_residual-in_err-found.ensures.1 (rw (c.in_ok-start.ensures, c.deref.ensures.value, c.in_ok-parts.ensures) at c.in_err-found.ensures.performs)

pub returns-clause-performs : goal.returns-clause-performs
unfolding matching_names
returns-clause-performs g c = then _ (rw (c.in_ok-start.ensures, c.deref.ensures.value, c.in_ok-parts.ensures) at c.in_ok-found.ensures.performs) (rw c.in_ok-sorted.ensures finish)
