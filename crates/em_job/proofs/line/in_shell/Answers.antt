use Rattle.std.proofs.Common.{refl}
use Rattle.em_view.proofs.Doing.{out_s}
use Rattle.em_job.specs.Carrying.{in_shell}
use Rattle.em_job.proofs.line.in_shell.Goals as goal

pub returns-in_err-shell : goal.returns-in_err-shell
returns-in_err-shell g c = out_s _ refl c.from_residual.ensures.1

pub returns : goal.returns
unfolding in_shell
returns g c = rw c.in_ok-shell.ensures at c.run_in.ensures
