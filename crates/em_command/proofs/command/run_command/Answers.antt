use Rattle.std.proofs.Common.{refl}
use Rattle.em_view.proofs.Doing.{then_s, leave_s, owned_s}
use Rattle.em_command.specs.Commands.{run_command, ended}
use Rattle.em_command.proofs.command.run_command.Goals as goal

pub returns-in_err-ran : goal.returns-in_err-ran
unfolding run_command
returns-in_err-ran g c = leave_s _ c.from_residual.ensures.1 c.in_err-ran.ensures

pub returns : goal.returns
unfolding run_command
returns g c = then_s _ c.in_ok-ran.ensures (owned_s (ended _) (λ h. refl))
