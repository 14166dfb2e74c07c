use Rattle.em_program.proofs.Following.{then, leave, finish}
use Rattle.em_program.proofs.rounds.last_step.Goals as goal

pub returns-in_err-all_there-clause-told : goal.returns-in_err-all_there-clause-told
returns-in_err-all_there-clause-told g c = leave _ c.from_residual.ensures.1 (rw c.items.ensures at c.in_err-all_there.ensures.told)

pub returns-in_err-based-clause-told : goal.returns-in_err-based-clause-told
returns-in_err-based-clause-told g c =
    then _ (rw c.items.ensures at c.in_ok-all_there.ensures.told)
    (leave _ c.from_residual-in_err-based.ensures.1 c.in_err-based.ensures.told)

pub returns-in_err-project-clause-told : goal.returns-in_err-project-clause-told
returns-in_err-project-clause-told g c =
    then _ (rw c.items.ensures at c.in_ok-all_there.ensures.told)
    (then _ c.in_ok-based.ensures.told
    (leave _ c.from_residual-in_err-project.ensures.1 c.in_err-project.ensures.told))

pub returns-clause-told : goal.returns-clause-told
returns-clause-told g c =
    then _ (rw c.items.ensures at c.in_ok-all_there.ensures.told)
    (then _ c.in_ok-based.ensures.told
    (then _ c.in_ok-project.ensures.told finish))
