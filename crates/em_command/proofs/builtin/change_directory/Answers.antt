use Rattle.std.proofs.Common.{refl}
use Rattle.em_view.proofs.Doing.{then_s, leave_s, owned_s, below_ok, below_err}
use Rattle.em_command.specs.Builtins.{change_directory, itself}
use Rattle.em_command.proofs.builtin.change_directory.Goals as goal

pub returns-in_err-path : goal.returns-in_err-path
unfolding change_directory
returns-in_err-path g c = leave_s _ c.from_residual.ensures.1 (below_err itself (λ x. refl) (λ h. refl) c.in_err-path.ensures)

pub returns : goal.returns
unfolding change_directory
returns g c = then_s _ (below_ok itself c.in_ok-path.ensures) (owned_s _ (λ h. rw c.well.ensures refl))
