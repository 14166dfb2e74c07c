use Rattle.em_view.proofs.Performing.{then, leave}
use Rattle.em_utility.proofs.Trying.{named_by}
use Rattle.em_command.specs.Builtins.{directory_at}
use Rattle.em_command.proofs.Settling.{gave_any}
use Rattle.em_command.proofs.builtin.directory_at.Goals as goal

pub returns-in_err-kind : goal.returns-in_err-kind
unfolding directory_at
returns-in_err-kind g c = leave _ c.from_residual.ensures.1 (named_by _ c.in_err-kind.ensures c.kind.ensures.performs)

pub returns : goal.returns
unfolding directory_at
returns g c = then _ (named_by _ c.in_ok-kind.ensures c.kind.ensures.performs) (gave_any _ _ c.only_directory.ensures)
