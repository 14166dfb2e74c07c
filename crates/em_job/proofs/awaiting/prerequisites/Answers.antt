use Rattle.em_view.proofs.Doing.{then_s, leave_s, finish_s}
use Rattle.em_job.specs.Deciding.{prerequisites}
use Rattle.em_job.proofs.awaiting.prerequisites.Goals as goal

pub returns-in_err-normal : goal.returns-in_err-normal
unfolding prerequisites
returns-in_err-normal g c = λ s. leave_s _ c.from_residual.ensures.1 (rw (c.items-pres.ensures, c.get.ensures) at c.in_err-normal.ensures s)

pub returns-in_err-fine : goal.returns-in_err-fine
unfolding prerequisites
returns-in_err-fine g c = λ s. then_s _ (rw (c.items-pres.ensures, c.get.ensures) at c.in_ok-normal.ensures s)
    (leave_s _ c.from_residual-in_err-fine.ensures.1 (rw (c.items.ensures, c.get-2.ensures, c.behind-left.ensures, c.items-pres.ensures, c.get.ensures) at c.in_err-fine.ensures s))

pub returns : goal.returns
unfolding prerequisites
returns g c = λ s. then_s _ (rw (c.items-pres.ensures, c.get.ensures) at c.in_ok-normal.ensures s) (then_s _ (rw (c.items.ensures, c.get-2.ensures, c.behind-left.ensures, c.items-pres.ensures, c.get.ensures) at c.in_ok-fine.ensures s) finish_s)
