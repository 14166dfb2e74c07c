use Rattle.em_view.proofs.Doing.{then_s, leave_s, owned_s}
use Rattle.em_fileutil.proofs.Spotting.{there_s}
use Rattle.em_fileutil.specs.Listing.{list_directory}
use Rattle.em_fileutil.proofs.list.list_directory.Goals as goal

pub returns-in_err-inside : goal.returns-in_err-inside
unfolding list_directory
returns-in_err-inside g c = leave_s _ c.from_residual.ensures.1 (there_s _ c.in_err-inside.ensures c.names.ensures.performs)

pub returns : goal.returns
unfolding list_directory
returns g c = then_s _ (there_s _ c.in_ok-inside.ensures c.names.ensures.performs) (owned_s _ c.print_names.ensures)
