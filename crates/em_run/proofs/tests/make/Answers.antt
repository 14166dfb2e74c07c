use Rattle.std.proofs.Common.{refl}
use Rattle.em_view.proofs.Doing.{then_s, leave_s, finish_s, owned_s, below_ok, below_err}
use Rattle.em_run.specs.Examples.{mark, said, itself}
use Rattle.em_run.proofs.tests.make.Goals as goal

pub returns-in_err-kind : goal.returns-in_err-kind
unfolding mark
returns-in_err-kind g c = leave_s _ c.from_residual.ensures.1 (below_err itself (λ x. refl) (λ h. refl) c.in_err-kind.ensures.performs)

pub returns-in_err-put-in-Absent : goal.returns-in_err-put-in-Absent
unfolding mark
returns-in_err-put-in-Absent g c = then_s _ (below_ok itself c.in_ok-kind.ensures.performs) (rw c.in-Absent.is (then_s _ (owned_s (said _) c.in_ok-say-in-Absent.ensures)
    (leave_s _ c.from_residual-in_err-put-in-Absent.ensures.1 (below_err itself (λ x. refl) (λ h. refl) c.in_err-put-in-Absent.ensures.performs))))

pub returns-in_ok-put-in-Absent : goal.returns-in_ok-put-in-Absent
unfolding mark
returns-in_ok-put-in-Absent g c = then_s _ (below_ok itself c.in_ok-kind.ensures.performs) (rw c.in-Absent.is (then_s _ (owned_s (said _) c.in_ok-say-in-Absent.ensures)
    (then_s _ (below_ok itself c.in_ok-put-in-Absent.ensures.performs) finish_s)))

pub returns-in_ok-say-in-File : goal.returns-in_ok-say-in-File
unfolding mark
returns-in_ok-say-in-File g c = then_s _ (below_ok itself c.in_ok-kind.ensures.performs) (rw c.in-File.is (then_s _ (owned_s (said _) c.in_ok-say-in-File.ensures) finish_s))

pub returns-in_ok-say-in-Dir : goal.returns-in_ok-say-in-Dir
unfolding mark
returns-in_ok-say-in-Dir g c = then_s _ (below_ok itself c.in_ok-kind.ensures.performs) (rw c.in-Dir.is (then_s _ (owned_s (said _) c.in_ok-say-in-Dir.ensures) finish_s))

pub returns-in_ok-say-in-Link : goal.returns-in_ok-say-in-Link
unfolding mark
returns-in_ok-say-in-Link g c = then_s _ (below_ok itself c.in_ok-kind.ensures.performs) (rw c.in-Link.is (then_s _ (owned_s (said _) c.in_ok-say-in-Link.ensures) finish_s))
