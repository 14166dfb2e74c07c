use Rattle.em_program.proofs.Working.{worked, not_worked}
use Rattle.em_program.proofs.count.work.Goals as goal

pub returns-in_err-step-clause-told : goal.returns-in_err-step-clause-told
returns-in_err-step-clause-told g c = not_worked c.args.site _ _ _ _ c.from_residual.ensures.1 c.in_err-step.ensures.told

pub returns-clause-told : goal.returns-clause-told
returns-clause-told g c = worked c.args.site _ _ _ _ _ c.in_ok-step.ensures.is c.in_ok-step.ensures.told c.run_from.ensures.told
