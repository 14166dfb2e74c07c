use Rattle.std.proofs.Common.{refl}
use Rattle.em_view.proofs.Doing.{then_s, leave_s, finish_s, owned_s, below_ok, below_err}
use Rattle.em_run.specs.Examples.{said, itself}
use Rattle.em_testing.specs.Links.{link}
use Rattle.em_testing.proofs.links.make.Goals as goal

pub returns-in_err-body : goal.returns-in_err-body
unfolding link
returns-in_err-body g c = leave_s _ c.from_residual.ensures.1 (below_err itself (λ x. refl) (λ h. refl) c.in_err-body.ensures.performs)

pub returns-in_err-put : goal.returns-in_err-put
unfolding link
returns-in_err-put g c = then_s _ (below_ok itself c.in_ok-body.ensures.performs) (then_s _ (owned_s (said _) (rw (c.bytes.ensures, c.in_ok-text.ensures) at c.in_ok-say.ensures))
    (leave_s _ c.from_residual-in_err-put.ensures.1 (below_err itself (λ x. refl) (λ h. refl) (rw (c.bytes-2.ensures, c.in_ok-text.ensures) at c.in_err-put.ensures.performs))))

pub returns : goal.returns
unfolding link
returns g c = then_s _ (below_ok itself c.in_ok-body.ensures.performs) (then_s _ (owned_s (said _) (rw (c.bytes.ensures, c.in_ok-text.ensures) at c.in_ok-say.ensures))
    (then_s _ (below_ok itself (rw (c.bytes-2.ensures, c.in_ok-text.ensures) at c.in_ok-put.ensures.performs)) finish_s))
