use Rattle.em_view.proofs.Doing.{then_s, leave_s, refused_s}
use Rattle.em_utility.proofs.Trying.{named_s}
use Rattle.em_fileutil.specs.Making.{remove_directory}
use Rattle.em_fileutil.proofs.make.remove_directory.Goals as goal

pub returns-in_err-_text : goal.returns-in_err-_text
unfolding remove_directory
returns-in_err-_text g c = λ d. leave_s _ c.from_residual.ensures.1 (named_s _ c.in_err-_text.ensures c.link.ensures.performs)

pub returns-in-Some : goal.returns-in-Some
unfolding remove_directory
returns-in-Some g c = λ d. then_s _ (named_s _ c.in_ok-_text.ensures c.link.ensures.performs) (rw c.in-Some.is (refused_s _ c.told.ensures))

pub returns-in-None : goal.returns-in-None
unfolding remove_directory
returns-in-None g c = λ d. then_s _ (named_s _ c.in_ok-_text.ensures c.link.ensures.performs) (rw c.in-None.is (c.remove_other_directory.ensures d))
