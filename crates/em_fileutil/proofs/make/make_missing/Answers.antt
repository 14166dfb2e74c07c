use Rattle.em_view.proofs.Doing.{then_s, leave_s, finish_s, refused_s}
use Rattle.em_utility.proofs.Trying.{named_s}
use Rattle.em_fileutil.specs.Making.{make_missing}
use Rattle.em_fileutil.proofs.make.make_missing.Goals as goal

pub returns-in_err-named : goal.returns-in_err-named
unfolding make_missing
returns-in_err-named g c = λ d. leave_s _ c.from_residual.ensures.1 (named_s _ c.in_err-named.ensures c.kind.ensures.performs)

pub returns-in-Absent : goal.returns-in-Absent
unfolding make_missing
returns-in-Absent g c = λ d. then_s _ (named_s _ c.in_ok-named.ensures c.kind.ensures.performs) (rw c.in-Absent.is (named_s _ c.named-in-Absent.ensures c.make_dir.ensures.performs))

pub returns-in-File : goal.returns-in-File
unfolding make_missing
returns-in-File g c = λ d. then_s _ (named_s _ c.in_ok-named.ensures c.kind.ensures.performs) (rw c.in-File.is (refused_s _ c.fault.ensures))

pub returns-in-Dir : goal.returns-in-Dir
unfolding make_missing
returns-in-Dir g c = λ d. then_s _ (named_s _ c.in_ok-named.ensures c.kind.ensures.performs) (rw c.in-Dir.is finish_s)

pub returns-in-Link : goal.returns-in-Link
unfolding make_missing
returns-in-Link g c = λ d. then_s _ (named_s _ c.in_ok-named.ensures c.kind.ensures.performs) (rw c.in-Link.is finish_s)
