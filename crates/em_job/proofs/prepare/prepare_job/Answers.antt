use Rattle.em_view.proofs.Doing.{then_s, leave_s, finish_s}
use Rattle.em_job.specs.Preparing.{prepare_with}
use Rattle.em_job.proofs.prepare.prepare_job.Goals as goal

pub returns-in_err-normal : goal.returns-in_err-normal
unfolding prepare_with
returns-in_err-normal g c = leave_s _ c.from_residual.ensures.1 (c.in_err-normal.ensures _)

pub returns-then-not-fine : goal.returns-then-not-fine
unfolding prepare_with
returns-then-not-fine g c = then_s _ (c.in_ok-normal.ensures _) (rw c.if-not-fine.true finish_s)

pub returns : goal.returns
unfolding prepare_with
returns g c = then_s _ (c.in_ok-normal.ensures _) (rw c.if-not-fine.false (rw c.items.ensures at c.decide.ensures))
