use Rattle.std.proofs.Common.{refl}
use Rattle.em_view.proofs.Performing.{then, leave, finish, ran_out}
use Rattle.em_textutil.specs.Expressions.{says_link}
use Rattle.em_textutil.proofs.expression.says_link.Goals as goal

pub returns-in_err-path : goal.returns-in_err-path
returns-in_err-path g c = ran_out _ refl c.from_residual.ensures.1

pub returns-in_err-link : goal.returns-in_err-link
unfolding says_link
returns-in_err-link g c = leave _ c.from_residual-in_err-link.ensures.1 (rw c.in_ok-path.ensures at c.in_err-link.ensures)

pub returns : goal.returns
unfolding says_link
returns g c = then _ (rw c.in_ok-path.ensures at c.in_ok-link.ensures) (rw c.is_some.ensures finish)
