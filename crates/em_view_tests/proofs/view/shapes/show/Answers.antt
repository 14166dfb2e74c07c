use Rattle.std.proofs.Common.{refl}
use Rattle.em_view.specs.Examples.{show, said, itself}
use Rattle.em_view.proofs.Doing.{then_s, leave_s, refused_s, owned_s, below_ok, below_err}
use Rattle.em_view_tests.proofs.view.shapes.show.Goals as goal

pub returns-in_err-say : goal.returns-in_err-say
unfolding show
returns-in_err-say g c = leave_s _ c.from_residual.ensures.1 (owned_s (said _) c.in_err-say.ensures)

pub returns-in_err-body : goal.returns-in_err-body
unfolding show
returns-in_err-body g c = then_s _ (owned_s (said _) c.in_ok-say.ensures) (leave_s _ c.from_residual-in_err-body.ensures.1 (below_err itself (λ x. refl) (λ h. refl) c.in_err-body.ensures.performs))

pub returns-in_default : goal.returns-in_default
unfolding show
returns-in_default g c = then_s _ (owned_s (said _) c.in_ok-say.ensures) (then_s _ (below_ok itself c.in_ok-body.ensures.performs) (rw c.in_default.is (refused_s _ (λ h. refl))))

pub returns : goal.returns
unfolding show
returns g c = then_s _ (owned_s (said _) c.in_ok-say.ensures) (then_s _ (below_ok itself c.in_ok-body.ensures.performs) (rw c.in-Some.is (owned_s (said _) (rw c.bytes.ensures at c.say-2.ensures))))
