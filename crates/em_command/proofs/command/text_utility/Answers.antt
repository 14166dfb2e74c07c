use Rattle.std.proofs.Common.{refl}
use Rattle.em_view.proofs.Performing.{then, leave, finish, ran_out}
use Rattle.em_command.specs.Commands.{text_utility}
use Rattle.em_command.proofs.command.text_utility.Goals as goal

pub returns-in_err-done : goal.returns-in_err-done
unfolding text_utility
returns-in_err-done g c = leave _ c.from_residual.ensures.1 c.in_err-done.ensures

pub returns-in-Some : goal.returns-in-Some
unfolding text_utility
returns-in-Some g c = then _ c.in_ok-done.ensures (rw (c.in-Some.is, c.plain.ensures) finish)

pub returns-in_err-not_found-in-None : goal.returns-in_err-not_found-in-None
unfolding text_utility
returns-in_err-not_found-in-None g c = then _ c.in_ok-done.ensures (ran_out _ refl c.from_residual-in_err-not_found-in-None.ensures.1)

pub returns-in_ok-not_found-in-None : goal.returns-in_ok-not_found-in-None
unfolding text_utility
returns-in_ok-not_found-in-None g c = then _ c.in_ok-done.ensures (rw (c.in-None.is, c.plain-in-None.ensures, c.in_ok-not_found-in-None.ensures) finish)
