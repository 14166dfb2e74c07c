use Rattle.em_view.proofs.Performing.{then, leave}
use Rattle.em_textutil.specs.Utilities.{reads}
use Rattle.em_textutil.proofs.Seeking.{gave_by, gave_none}
use Rattle.em_textutil.proofs.command.reads.Goals as goal

pub returns-in_err-options : goal.returns-in_err-options
unfolding reads
returns-in_err-options g c = leave _ c.from_residual.ensures.1 (gave_none c.in_err-options.ensures)

pub returns : goal.returns
unfolding reads
returns g c = then _ (gave_by c.in_ok-options.ensures) c.with_options.ensures
