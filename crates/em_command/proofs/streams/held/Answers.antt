use Rattle.em_view.proofs.Performing.{then, leave, finish}
use Rattle.em_command.specs.Streams.{held}
use Rattle.em_command.proofs.streams.held.Goals as goal

pub returns-in_err-read : goal.returns-in_err-read
unfolding held
returns-in_err-read g c = leave _ c.from_residual.ensures.1 c.in_err-read.ensures

pub returns : goal.returns
unfolding held
returns g c = then _ c.in_ok-read.ensures finish
