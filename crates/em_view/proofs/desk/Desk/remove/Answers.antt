use Rattle.std.proofs.Common.{◌∙◌, sym}
use Rattle.em_view.specs.Rows.{remove}
use Rattle.em_view.proofs.Performing.{then, leave, refused}
use Rattle.em_view.proofs.Looking.{sound_still}
use Rattle.em_view.proofs.desk.Desk.remove.Goals as goal

pub returns-in_err-ready-clause-performs : goal.returns-in_err-ready-clause-performs
unfolding remove
returns-in_err-ready-clause-performs g c = leave _ c.from_residual.ensures.1 c.in_err-ready.ensures.performs

pub returns-in_default-clause-performs : goal.returns-in_default-clause-performs
unfolding remove
returns-in_default-clause-performs g c = then _ c.in_ok-ready.ensures.performs (rw (sym c.in_ok-_above.ensures.ok ∙ c.in_default.is) refused)

pub returns-in_err-target-clause-performs : goal.returns-in_err-target-clause-performs
unfolding remove
returns-in_err-target-clause-performs g c = then _ c.in_ok-ready.ensures.performs (rw (sym c.in_ok-_above.ensures.ok ∙ c.in-Some.is) (leave _ c.from_residual-in_err-target.ensures.1 c.in_err-target.ensures.performs))

pub remove_at-requires-clause-sound : goal.remove_at-requires-clause-sound
remove_at-requires-clause-sound g c = sound_still c.ready.new.self c.target.new.self _ c.in_ok-target.ensures.still c.in_ok-target.ensures.performs.grows.grew c.in_ok-ready.ensures.sound

pub returns-clause-performs : goal.returns-clause-performs
unfolding remove
returns-clause-performs g c = then _ c.in_ok-ready.ensures.performs (rw (sym c.in_ok-_above.ensures.ok ∙ c.in-Some.is) (then _ c.in_ok-target.ensures.performs c.remove_at.ensures.performs))
