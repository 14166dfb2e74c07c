use Rattle.em_view.proofs.Doing.{then_s, leave_s}
use Rattle.em_utility.proofs.Trying.{named_s}
use Rattle.em_fileutil.proofs.Spotting.{there_s}
use Rattle.em_fileutil.specs.Copying.{copy_file}
use Rattle.em_fileutil.proofs.copy.copy_file.Goals as goal

pub returns-in_err-body : goal.returns-in_err-body
unfolding copy_file
returns-in_err-body g c = λ d. leave_s _ c.from_residual.ensures.1 (there_s _ c.in_err-body.ensures c.content.ensures.performs)

pub returns : goal.returns
unfolding copy_file
returns g c = λ d. then_s _ (there_s _ c.in_ok-body.ensures c.content.ensures.performs) (named_s _ c.tried.ensures (rw c.bytes.ensures at c.put.ensures.performs))
