use Rattle.std.proofs.Common.{refl}
use Rattle.em_view.proofs.Doing.{then_s, leave_s, within_ok, within_err}
use Rattle.em_command.specs.declared.here.Here.{Here}
use Rattle.em_command.specs.declared.jump.Jump.TheVariants.{End}
use Rattle.em_command.specs.Acting.{with_shell, perform}
use Rattle.em_command.proofs.act.perform.Goals as goal

pub returns-in_err-ran : goal.returns-in_err-ran
unfolding perform
returns-in_err-ran g c = leave_s _ c.from_residual.ensures.1 (within_err (λ (h : Here). h.shell) with_shell End _ c.args.here.now (λ x. refl) (λ h. refl) (rw c.input_bytes-input.ensures at c.in_err-ran.ensures))

pub returns : goal.returns
unfolding perform
returns g c = then_s _ (within_ok (λ (h : Here). h.shell) with_shell End _ c.args.here.now (rw c.input_bytes-input.ensures at c.in_ok-ran.ensures)) c.left_over.ensures
