use Rattle.em_view.proofs.Doing.{finish_s}
use Rattle.em_utility.proofs.Trying.{named_s}
use Rattle.em_fileutil.proofs.link.link_by.Goals as goal

pub returns-in-Some : goal.returns-in-Some
returns-in-Some g c = λ d. rw c.in-Some.is (named_s _ c.named.ensures c.link.ensures.performs)

pub returns-in-None : goal.returns-in-None
returns-in-None g c = λ d. rw c.in-None.is finish_s
