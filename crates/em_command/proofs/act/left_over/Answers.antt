use Rattle.std.proofs.Common.{Result, Ok, Err, refl}
use Rattle.em_view.specs.Performs.{DeskState, Told}
use Rattle.em_view.specs.Steps.{Does}
use Rattle.em_view.proofs.Doing.{then_s, leave_s, finish_s, refused_s, below_ok, below_err}
use Rattle.em_command.specs.declared.jump.Jump.{Jump}
use Rattle.em_command.specs.declared.here.Here.{Here}
use Rattle.em_command.specs.Jumps.{is_free, of_desk}
use Rattle.em_command.specs.Acting.{jumped, charge, left_over}
use Rattle.em_command.proofs.Settling.{free_desk}
use Rattle.em_command.proofs.act.left_over.Goals as goal

jumps : {V : Type 0} {tells : V → Told} {d : DeskState V} {h : Here} (r : Result (Unit {0}) Jump) → Does is_free tells d d h h r (jumped r)
jumps (Ok tt) = finish_s
jumps (Err j) = refused_s j (λ n. refl)

pub returns-in_err-charge : goal.returns-in_err-charge
unfolding left_over charge
returns-in_err-charge g c = leave_s _ c.from_residual.ensures.1 (below_err of_desk free_desk (λ h. refl) (rw c.items.ensures at c.in_err-charge.ensures))

pub returns-in_err-deliver : goal.returns-in_err-deliver
unfolding left_over charge
returns-in_err-deliver g c = then_s _ (below_ok of_desk (rw c.items.ensures at c.in_ok-charge.ensures)) (leave_s _ c.from_residual-in_err-deliver.ensures.1 c.in_err-deliver.ensures)

pub returns : goal.returns
unfolding left_over charge
returns g c = then_s _ (below_ok of_desk (rw c.items.ensures at c.in_ok-charge.ensures)) (then_s _ c.in_ok-deliver.ensures (rw c.jump.ensures (jumps _)))
