use Rattle.std.proofs.Common.{refl}
use Rattle.em_command.specs.Builtins.{asked}
use Rattle.em_command.proofs.Words.{options_given, options_refused}
use Rattle.em_command.proofs.builtin.asked.Goals as goal

pub returns-in_err-options : goal.returns-in_err-options
unfolding asked
returns-in_err-options g c = options_refused _ _ _ (rw c.name_of.ensures at c.in_err-options.ensures) c.from_residual.ensures.1

pub returns : goal.returns
unfolding asked
returns g c = options_given _ _ _ (rw c.name_of.ensures at (c.in_ok-options.ensures refl)) (rw c.operands.ensures at c.asked_of.ensures)
