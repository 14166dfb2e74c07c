use Rattle.em_view.proofs.Performing.{then, leave, finish}
use Rattle.em_command.specs.Commands.{utility}
use Rattle.em_command.proofs.command.utility.Goals as goal

pub returns-in_err-done : goal.returns-in_err-done
unfolding utility
returns-in_err-done g c = leave _ c.from_residual.ensures.1 c.in_err-done.ensures

pub returns-in-Some : goal.returns-in-Some
unfolding utility
returns-in-Some g c = then _ c.in_ok-done.ensures (rw (c.in-Some.is, c.plain.ensures) finish)

pub returns-in-None : goal.returns-in-None
unfolding utility
returns-in-None g c = then _ c.in_ok-done.ensures (rw c.in-None.is c.text_utility.ensures)
