use Rattle.em_view.proofs.Performing.{then, leave, finish}
use Rattle.em_utility.proofs.Trying.{command_ok, command_err}
use Rattle.em_fileutil.proofs.Commands.{ended, ended_err}
use Rattle.em_fileutil.specs.Utilities.{utility_by}
use Rattle.em_fileutil.proofs.command.utility_by.Goals as goal

pub returns-in_err-options : goal.returns-in_err-options
unfolding utility_by
returns-in_err-options g c = leave _ c.from_residual.ensures.1 (ended_err c.in_err-options.ensures)

pub returns-in_err-run : goal.returns-in_err-run
unfolding utility_by
returns-in_err-run g c = then _ (ended c.in_ok-options.ensures) (leave _ c.from_residual-in_err-run.ensures.1 (command_err (rw (c.begun-done.ensures, c.operands.ensures) at c.in_err-run.ensures)))

pub returns : goal.returns
unfolding utility_by
returns g c = then _ (ended c.in_ok-options.ensures) (then _ (command_ok (rw (c.begun-done.ensures, c.operands.ensures) at c.in_ok-run.ensures)) finish)
