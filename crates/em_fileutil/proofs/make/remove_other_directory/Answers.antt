use Rattle.em_view.proofs.Doing.{then_s, leave_s, refused_s}
use Rattle.em_utility.proofs.Trying.{named_s}
use Rattle.em_fileutil.specs.Making.{remove_other_directory}
use Rattle.em_fileutil.proofs.make.remove_other_directory.Goals as goal

pub returns-in_err-tried : goal.returns-in_err-tried
unfolding remove_other_directory
returns-in_err-tried g c = λ d. leave_s _ c.from_residual.ensures.1 (named_s _ c.in_err-tried.ensures c.kind.ensures.performs)

pub returns-in-Absent : goal.returns-in-Absent
unfolding remove_other_directory
returns-in-Absent g c = λ d. then_s _ (named_s _ c.in_ok-tried.ensures c.kind.ensures.performs) (rw c.in-Absent.is (named_s _ c.tried-in-Absent.ensures c.remove.ensures.performs))

pub returns-in-File : goal.returns-in-File
unfolding remove_other_directory
returns-in-File g c = λ d. then_s _ (named_s _ c.in_ok-tried.ensures c.kind.ensures.performs) (rw c.in-File.is (refused_s _ c.told.ensures))

pub returns-in-Link : goal.returns-in-Link
unfolding remove_other_directory
returns-in-Link g c = λ d. then_s _ (named_s _ c.in_ok-tried.ensures c.kind.ensures.performs) (rw c.in-Link.is (refused_s _ c.told-in-Link.ensures))

pub returns-in-Dir : goal.returns-in-Dir
unfolding remove_other_directory
returns-in-Dir g c = λ d. then_s _ (named_s _ c.in_ok-tried.ensures c.kind.ensures.performs) (rw c.in-Dir.is (named_s _ c.tried-in-Dir.ensures c.remove-in-Dir.ensures.performs))
