use Rattle.em_view.proofs.Doing.{then_s, leave_s, owned_s, refused_s}
use Rattle.em_reader.specs.Makefiles.{expanded_goal}
use Rattle.em_reader.proofs.goal.expanded_goal.Goals as goal

pub returns-in_err-value : goal.returns-in_err-value
unfolding expanded_goal
returns-in_err-value g c = leave_s _ c.from_residual.ensures.1 c.in_err-value.ensures

pub returns-in-Some : goal.returns-in-Some
unfolding expanded_goal
returns-in-Some g c = then_s _ c.in_ok-value.ensures (rw c.in-Some.is (refused_s _ (rw c.bytes.ensures at c.refused.ensures)))

pub returns : goal.returns
unfolding expanded_goal
returns g c = then_s _ c.in_ok-value.ensures (rw c.in_default.is (owned_s _ (rw c.bytes-2.ensures at c.set_goal.ensures)))
