use Rattle.std.proofs.Common.{refl}
use Rattle.em_view.proofs.Doing.{then_s, leave_s, gave_s, below_ok, below_err}
use Rattle.em_expand.specs.Desks.{of_desk}
use Rattle.em_expand.specs.Expansion.{put_wildcard}
use Rattle.em_expand.proofs.Making.{desk_same}
use Rattle.em_expand.proofs.put.put_wildcard.Goals as goal

pub returns-in_err-names : goal.returns-in_err-names
unfolding put_wildcard
returns-in_err-names g c = λ s. leave_s _ c.from_residual.ensures.1 (below_err of_desk desk_same (λ h. refl) c.in_err-names.ensures.performs)

pub returns : goal.returns
unfolding put_wildcard
returns g c = λ s. then_s _ (below_ok of_desk c.in_ok-names.ensures.performs) (gave_s _ (rw c.bytes.ensures at c.put.ensures))
