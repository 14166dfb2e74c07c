use Rattle.std.proofs.Common.{refl}
use Rattle.em_view.proofs.Performing.{then, leave, finish, ran_out}
use Rattle.em_textutil.specs.Expressions.{says_kind}
use Rattle.em_textutil.proofs.expression.says_kind.Goals as goal

pub returns-in_err-path : goal.returns-in_err-path
returns-in_err-path g c = ran_out _ refl c.from_residual.ensures.1

pub returns-in_err-kind : goal.returns-in_err-kind
unfolding says_kind
returns-in_err-kind g c = leave _ c.from_residual-in_err-kind.ensures.1 (rw c.in_ok-path.ensures at c.in_err-kind.ensures)

pub returns : goal.returns
unfolding says_kind
returns g c = then _ (rw c.in_ok-path.ensures at c.in_ok-kind.ensures) (rw c.is_of.ensures finish)
