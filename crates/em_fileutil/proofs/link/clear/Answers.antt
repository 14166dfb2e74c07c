use Rattle.em_view.proofs.Doing.{then_s, leave_s}
use Rattle.em_utility.proofs.Trying.{named_s}
use Rattle.em_fileutil.specs.Linking.{clear}
use Rattle.em_fileutil.proofs.link.clear.Goals as goal

pub returns-in_err-_text : goal.returns-in_err-_text
unfolding clear
returns-in_err-_text g c = λ d. leave_s _ c.from_residual.ensures.1 (named_s _ c.in_err-_text.ensures c.link.ensures.performs)

pub returns-in-Some : goal.returns-in-Some
unfolding clear
returns-in-Some g c = λ d. then_s _ (named_s _ c.in_ok-_text.ensures c.link.ensures.performs) (rw c.in-Some.is (named_s _ c.tried-in-Some.ensures c.remove.ensures.performs))

pub returns-in-None : goal.returns-in-None
unfolding clear
returns-in-None g c = λ d. then_s _ (named_s _ c.in_ok-_text.ensures c.link.ensures.performs) (rw c.in-None.is (c.clear_other.ensures d))
