use Rattle.em_view.proofs.Doing.{then_s, leave_s}
use Rattle.em_utility.proofs.Trying.{named_s}
use Rattle.em_fileutil.proofs.Spotting.{there_s}
use Rattle.em_fileutil.specs.Copying.{move_file}
use Rattle.em_fileutil.proofs.copy.move_file.Goals as goal

pub returns-in_err-body : goal.returns-in_err-body
unfolding move_file
returns-in_err-body g c = λ d. leave_s _ c.from_residual.ensures.1 (there_s _ c.in_err-body.ensures c.content.ensures.performs)

pub returns-in_err-stamp : goal.returns-in_err-stamp
unfolding move_file
returns-in_err-stamp g c = λ d. then_s _ (there_s _ c.in_ok-body.ensures c.content.ensures.performs) (leave_s _ c.from_residual-in_err-stamp.ensures.1 (there_s _ c.in_err-stamp.ensures c.stamp.ensures.performs))

pub returns-in_err-tried : goal.returns-in_err-tried
unfolding move_file
returns-in_err-tried g c = λ d. then_s _ (there_s _ c.in_ok-body.ensures c.content.ensures.performs) (then_s _ (there_s _ c.in_ok-stamp.ensures c.stamp.ensures.performs) (leave_s _ c.from_residual-in_err-tried.ensures.1 (named_s _ c.in_err-tried.ensures (rw c.bytes.ensures at c.place.ensures.performs))))

pub returns : goal.returns
unfolding move_file
returns g c = λ d. then_s _ (there_s _ c.in_ok-body.ensures c.content.ensures.performs) (then_s _ (there_s _ c.in_ok-stamp.ensures c.stamp.ensures.performs) (then_s _ (named_s _ c.in_ok-tried.ensures (rw c.bytes.ensures at c.place.ensures.performs)) (named_s _ c.tried-2.ensures c.remove.ensures.performs)))
