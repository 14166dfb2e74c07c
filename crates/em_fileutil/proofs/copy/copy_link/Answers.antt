use Rattle.em_view.proofs.Doing.{then_s, leave_s}
use Rattle.em_utility.proofs.Trying.{named_s}
use Rattle.em_fileutil.specs.Copying.{copy_link}
use Rattle.em_fileutil.proofs.copy.copy_link.Goals as goal

pub make_link-requires : goal.make_link-requires
make_link-requires g c = record { text = rw c.bytes.ensures.bytes c.bytes.ensures.text }

pub returns-in_err-clear : goal.returns-in_err-clear
unfolding copy_link
returns-in_err-clear g c = λ d. leave_s _ c.from_residual.ensures.1 (c.in_err-clear.ensures d)

pub returns-in_err-tried : goal.returns-in_err-tried
unfolding copy_link
returns-in_err-tried g c = λ d. then_s _ (c.in_ok-clear.ensures d) (leave_s _ c.from_residual-in_err-tried.ensures.1 (named_s _ c.in_err-tried.ensures (rw c.bytes.ensures.bytes at c.make_link.ensures.performs)))

pub returns : goal.returns
unfolding copy_link
returns g c = λ d. then_s _ (c.in_ok-clear.ensures d) (then_s _ (named_s _ c.in_ok-tried.ensures (rw c.bytes.ensures.bytes at c.make_link.ensures.performs)) (c.leave_source.ensures d))
