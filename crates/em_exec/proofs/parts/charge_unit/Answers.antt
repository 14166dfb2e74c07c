use Rattle.std.proofs.Common.{ap}
use Rattle.em_view.proofs.Doing.{below_ok, below_err}
use Rattle.em_command.specs.declared.jump.Jump.TheVariants.{End}
use Rattle.em_command.specs.Jumps.{of_desk}
use Rattle.em_exec.proofs.Ending.{free_of_desk}
use Rattle.em_exec.proofs.parts.charge_unit.Goals as goal

pub returns-in-Ok-clause-does : goal.returns-in-Ok-clause-does
returns-in-Ok-clause-does g c = λ h. below_ok of_desk c.in-Ok.ensures.performs

pub returns-in-Err-clause-does : goal.returns-in-Err-clause-does
returns-in-Err-clause-does g c = λ h. below_err of_desk free_of_desk (λ n. ap End c.from.ensures) c.in-Err.ensures.performs
