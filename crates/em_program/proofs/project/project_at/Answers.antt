use Rattle.em_program.proofs.Following.{then, leave, finish, ran_out}
use Rattle.em_program.proofs.project.project_at.Goals as goal

pub returns-in_err-plan-clause-told : goal.returns-in_err-plan-clause-told
returns-in_err-plan-clause-told g c = leave _ c.from_residual.ensures.1 c.in_err-plan.ensures.told

pub returns-in_err-assembled-clause-told : goal.returns-in_err-assembled-clause-told
returns-in_err-assembled-clause-told g c =
    then _ c.in_ok-plan.ensures.told
    (ran_out c.from_residual-in_err-assembled.ensures.1)

pub returns-clause-told : goal.returns-clause-told
returns-clause-told g c =
    then _ c.in_ok-plan.ensures.told (rw c.in_ok-assembled.ensures.project finish)
