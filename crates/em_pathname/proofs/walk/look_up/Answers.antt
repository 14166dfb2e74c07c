use Rattle.std.proofs.Common.{refl}
use Rattle.em_view.proofs.Performing.{ran_out}
use Rattle.em_pathname.specs.Walking.{look_up}
use Rattle.em_pathname.proofs.walk.look_up.Goals as goal

pub returns-in_err-bytes_of-clause-performs : goal.returns-in_err-bytes_of-clause-performs
returns-in_err-bytes_of-clause-performs g c = ran_out _ refl c.from_residual.ensures.1

pub returns-in_err-name-clause-performs : goal.returns-in_err-name-clause-performs
returns-in_err-name-clause-performs g c = ran_out _ refl c.from_residual-in_err-name.ensures.1

pub returns-in_err-found-clause-performs : goal.returns-in_err-found-clause-performs
returns-in_err-found-clause-performs g c = ran_out _ refl c.from_residual-in_err-found.ensures.1

pub returns-clause-performs : goal.returns-clause-performs
unfolding look_up
returns-clause-performs g c = rw (c.in_ok-found.ensures, c.in_ok-name.ensures, c.deref.ensures.value, c.in_ok-bytes_of.ensures, c.bytes.ensures) at c.look_up_found.ensures.performs
