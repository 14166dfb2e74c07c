use Rattle.std.proofs.Common.{true, Ok, refl}
use Rattle.em_view.proofs.Doing.{then_s, leave_s, owned_s, finish_s, below_ok, below_err}
use Rattle.em_command.specs.Jumps.{of_desk}
use Rattle.em_exec.proofs.Ending.{free_of_desk}
use Rattle.em_exec.proofs.enter.enter_path.Goals as goal

pub returns-in_err-kind : goal.returns-in_err-kind
returns-in_err-kind g c = leave_s _ c.from_residual.ensures.1 (below_err of_desk free_of_desk (λ n. refl) c.in_err-kind.ensures.performs)

pub returns-in-Dir : goal.returns-in-Dir
returns-in-Dir g c = then_s _ (below_ok of_desk c.in_ok-kind.ensures.performs) (rw c.in-Dir.is (owned_s {r = Ok true} _ (λ n. refl)))

pub returns-in-Absent : goal.returns-in-Absent
returns-in-Absent g c = then_s _ (below_ok of_desk c.in_ok-kind.ensures.performs) (rw c.in-Absent.is finish_s)

pub returns-in-File : goal.returns-in-File
returns-in-File g c = then_s _ (below_ok of_desk c.in_ok-kind.ensures.performs) (rw c.in-File.is finish_s)

pub returns-in-Link : goal.returns-in-Link
returns-in-Link g c = then_s _ (below_ok of_desk c.in_ok-kind.ensures.performs) (rw c.in-Link.is finish_s)
