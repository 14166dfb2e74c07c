use Rattle.std.proofs.Common.{refl}
use Rattle.em_program.specs.declared.stop.ProgramEnd.TheVariants.{NoMemory}
use Rattle.em_program.proofs.Following.{then, leave, finish, ran_out, faults_left}
use Rattle.em_program.proofs.rounds.remade_step.Goals as goal

pub returns-in_err-before-clause-told : goal.returns-in_err-before-clause-told
returns-in_err-before-clause-told g c = ran_out c.from_residual.ensures.1

pub returns-in_err-round_order-clause-told : goal.returns-in_err-round_order-clause-told
returns-in_err-round_order-clause-told g c = ran_out c.from_residual-in_err-round_order.ensures.1

pub returns-in_err-round_order-clause-faults : goal.returns-in_err-round_order-clause-faults
returns-in_err-round_order-clause-faults g c = faults_left c.from_residual-in_err-round_order.result NoMemory _ _ _ c.from_residual-in_err-round_order.ensures.1 refl refl

pub returns-in_err-project-clause-told : goal.returns-in_err-project-clause-told
returns-in_err-project-clause-told g c = leave _ c.from_residual-in_err-project.ensures.1 (rw c.in_ok-round_order.ensures at c.in_err-project.ensures.told)

pub returns-in_err-project-clause-faults : goal.returns-in_err-project-clause-faults
returns-in_err-project-clause-faults g c = faults_left c.from_residual-in_err-project.result c.in_err-project.field-0.0 _ _ _ c.from_residual-in_err-project.ensures.1 c.in_err-project.ensures.faults refl

pub returns-clause-told : goal.returns-clause-told
returns-clause-told g c = then _ (rw c.in_ok-round_order.ensures at c.in_ok-project.ensures.told) (rw c.in_ok-before.ensures finish)
