use Rattle.std.proofs.Common.{refl}
use Rattle.em_view.proofs.Performing.{then, leave, finish, ran_out}
use Rattle.em_command.specs.Streams.{opened}
use Rattle.em_command.proofs.streams.open_for.Goals as goal

pub returns-in_err-source : goal.returns-in_err-source
unfolding opened
returns-in_err-source g c = leave _ c.from_residual.ensures.1 c.in_err-source.ensures

pub returns-in_err-attached : goal.returns-in_err-attached
unfolding opened
returns-in_err-attached g c = then _ c.in_ok-source.ensures (ran_out _ refl c.from_residual-in_err-attached.ensures.1)

pub returns : goal.returns
unfolding opened
returns g c = then _ c.in_ok-source.ensures (rw c.in_ok-attached.ensures finish)
