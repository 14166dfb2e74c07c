use Rattle.em_view.proofs.Doing.{then_s, leave_s}
use Rattle.em_utility.proofs.Trying.{named_s}
use Rattle.em_fileutil.specs.Making.{touch_operand}
use Rattle.em_fileutil.proofs.make.touch_operand.Goals as goal

pub returns-in_err-tried : goal.returns-in_err-tried
unfolding touch_operand
returns-in_err-tried g c = λ d. leave_s _ c.from_residual.ensures.1 (named_s _ c.in_err-tried.ensures c.kind.ensures.performs)

pub returns-in-Absent : goal.returns-in-Absent
unfolding touch_operand
returns-in-Absent g c = λ d. then_s _ (named_s _ c.in_ok-tried.ensures c.kind.ensures.performs) (rw c.in-Absent.is (c.touch_absent.ensures d))

pub returns-in-File : goal.returns-in-File
unfolding touch_operand
returns-in-File g c = λ d. then_s _ (named_s _ c.in_ok-tried.ensures c.kind.ensures.performs) (rw c.in-File.is (named_s _ c.tried-in-File.ensures c.touch.ensures.performs))

pub returns-in-Dir : goal.returns-in-Dir
unfolding touch_operand
returns-in-Dir g c = λ d. then_s _ (named_s _ c.in_ok-tried.ensures c.kind.ensures.performs) (rw c.in-Dir.is (named_s _ c.tried-in-Dir.ensures c.touch-in-Dir.ensures.performs))

pub returns-in-Link : goal.returns-in-Link
unfolding touch_operand
returns-in-Link g c = λ d. then_s _ (named_s _ c.in_ok-tried.ensures c.kind.ensures.performs) (rw c.in-Link.is (named_s _ c.tried-in-Link.ensures c.touch-in-Link.ensures.performs))
