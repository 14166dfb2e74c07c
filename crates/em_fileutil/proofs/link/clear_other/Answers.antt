use Rattle.em_view.proofs.Doing.{then_s, leave_s, finish_s}
use Rattle.em_utility.proofs.Trying.{named_s}
use Rattle.em_fileutil.specs.Linking.{clear_other}
use Rattle.em_fileutil.proofs.link.clear_other.Goals as goal

pub returns-in_err-tried : goal.returns-in_err-tried
unfolding clear_other
returns-in_err-tried g c = λ d. leave_s _ c.from_residual.ensures.1 (named_s _ c.in_err-tried.ensures c.kind.ensures.performs)

pub returns-in-Absent : goal.returns-in-Absent
unfolding clear_other
returns-in-Absent g c = λ d. then_s _ (named_s _ c.in_ok-tried.ensures c.kind.ensures.performs) (rw c.in-Absent.is finish_s)

pub returns-in-File : goal.returns-in-File
unfolding clear_other
returns-in-File g c = λ d. then_s _ (named_s _ c.in_ok-tried.ensures c.kind.ensures.performs) (rw c.in-File.is (named_s _ c.tried-in-File.ensures c.remove.ensures.performs))

pub returns-in-Dir : goal.returns-in-Dir
unfolding clear_other
returns-in-Dir g c = λ d. then_s _ (named_s _ c.in_ok-tried.ensures c.kind.ensures.performs) (rw c.in-Dir.is finish_s)

pub returns-in-Link : goal.returns-in-Link
unfolding clear_other
returns-in-Link g c = λ d. then_s _ (named_s _ c.in_ok-tried.ensures c.kind.ensures.performs) (rw c.in-Link.is finish_s)
