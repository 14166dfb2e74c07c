use Rattle.std.proofs.Common.{refl}
use Rattle.em_view.proofs.Performing.{then, leave, finish, ran_out}
use Rattle.em_textutil.specs.Expressions.{says_stamps}
use Rattle.em_textutil.proofs.expression.says_stamps.Goals as goal

pub returns-in_err-path : goal.returns-in_err-path
returns-in_err-path g c = ran_out _ refl c.from_residual.ensures.1

pub returns-in_err-other : goal.returns-in_err-other
returns-in_err-other g c = ran_out _ refl c.from_residual-in_err-other.ensures.1

pub returns-in_err-s : goal.returns-in_err-s
unfolding says_stamps
returns-in_err-s g c = leave _ c.from_residual-in_err-s.ensures.1 (rw c.in_ok-path.ensures at c.in_err-s.ensures)

pub returns-in_err-t : goal.returns-in_err-t
unfolding says_stamps
returns-in_err-t g c = then _ (rw c.in_ok-path.ensures at c.in_ok-s.ensures) (leave _ c.from_residual-in_err-t.ensures.1 (rw c.in_ok-other.ensures at c.in_err-t.ensures))

pub returns : goal.returns
unfolding says_stamps
returns g c = then _ (rw c.in_ok-path.ensures at c.in_ok-s.ensures) (then _ (rw c.in_ok-other.ensures at c.in_ok-t.ensures) (rw c.is_newest.ensures finish))
