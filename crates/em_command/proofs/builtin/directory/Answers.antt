use Rattle.em_view.proofs.Performing.{then, leave}
use Rattle.em_utility.proofs.Trying.{gave_by, gave_none}
use Rattle.em_command.specs.Builtins.{directory}
use Rattle.em_command.proofs.builtin.directory.Goals as goal

pub returns-in_err-path : goal.returns-in_err-path
unfolding directory
returns-in_err-path g c = leave _ c.from_residual.ensures.1 (gave_none c.in_err-path.ensures)

pub returns : goal.returns
unfolding directory
returns g c = then _ (gave_by c.in_ok-path.ensures) c.directory_at.ensures
