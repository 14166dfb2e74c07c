use Rattle.std.proofs.Common.{refl}
use Rattle.em_view.proofs.Performing.{then, leave, finish, ran_out}
use Rattle.em_utility.proofs.Trying.{named_by}
use Rattle.em_command.specs.Delivering.{append_some}
use Rattle.em_command.proofs.delivery.append_some.Goals as goal

pub returns-in_err-body : goal.returns-in_err-body
unfolding append_some
returns-in_err-body g c = leave _ c.from_residual.ensures.1 (named_by _ (rw c.bytes-word.ensures at c.in_err-body.ensures) c.content.ensures.performs)

pub returns-in_default : goal.returns-in_default
unfolding append_some
returns-in_default g c = then _ (named_by _ (rw c.bytes-word.ensures at c.in_ok-body.ensures) c.content.ensures.performs) (rw c.in_default.is finish)

pub returns-in_err-all : goal.returns-in_err-all
unfolding append_some
returns-in_err-all g c = then _ (named_by _ (rw c.bytes-word.ensures at c.in_ok-body.ensures) c.content.ensures.performs) (ran_out _ refl c.from_residual-in_err-all.ensures.1)

pub returns : goal.returns
unfolding append_some
returns g c = then _ (named_by _ (rw c.bytes-word.ensures at c.in_ok-body.ensures) c.content.ensures.performs) (rw c.in-Some.is (named_by _ (rw c.bytes-word.ensures at c.named-2.ensures) (rw (c.bytes-2.ensures, c.in_ok-all.ensures, c.bytes.ensures) at c.put.ensures.performs)))
