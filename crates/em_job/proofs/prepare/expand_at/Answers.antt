use Rattle.em_view.proofs.Doing.{then_s, leave_s, exit_s, finish_s, owned_s, within_ok, within_err}
use Rattle.em_job.specs.Stops as stops
use Rattle.em_job.specs.Preparing as preparing
use Rattle.em_job.proofs.Stopping.{expand_free}
use Rattle.em_job.proofs.prepare.expand_at.Goals as goal

pub returns-in_err-no_evals-in-Ok : goal.returns-in_err-no_evals-in-Ok
unfolding preparing.expand_at
returns-in_err-no_evals-in-Ok g c = then_s _ (within_ok preparing.itself preparing.instead (stops.of_expand c.args.place.now) _ _ (rw c.vars-shared.ensures at c.in-Ok.ensures))
    (leave_s _ c.from_residual.ensures.1 (owned_s _ c.in_err-no_evals-in-Ok.ensures))

pub returns-in_ok-no_evals-in-Ok : goal.returns-in_ok-no_evals-in-Ok
unfolding preparing.expand_at
returns-in_ok-no_evals-in-Ok g c = then_s _ (within_ok preparing.itself preparing.instead (stops.of_expand c.args.place.now) _ _ (rw c.vars-shared.ensures at c.in-Ok.ensures))
    (then_s _ (owned_s _ c.in_ok-no_evals-in-Ok.ensures) finish_s)

pub returns-in-Err : goal.returns-in-Err
unfolding preparing.expand_at
returns-in-Err g c = exit_s _ (within_err preparing.itself preparing.instead (stops.of_expand c.args.place.now) _ _ (expand_free c.args.place.now) c.of_expand.ensures (rw c.vars-shared.ensures at c.in-Err.ensures))
