use Rattle.em_view.proofs.Performing.{lifted}
use Rattle.em_word.specs.Ends.{of_desk}
use Rattle.em_word.proofs.Stepping.{lifted_left}
use Rattle.em_word.proofs.step.charge.Goals as goal

pub returns-in_err-take : goal.returns-in_err-take
returns-in_err-take g c = lifted_left c.from_residual.ensures.1 (rw c.blocks-2.ensures at c.in_err-take.ensures.performs)

pub returns : goal.returns
returns g c = lifted of_desk (rw c.blocks-2.ensures at c.in_ok-take.ensures.performs)
