use Rattle.em_view.specs.Rows.{touch}
use Rattle.em_view.proofs.Performing.{then, leave}
use Rattle.em_view.proofs.Looking.{sound_still}
use Rattle.em_view.proofs.desk.Desk.touch.Goals as goal

pub returns-in_err-ready-clause-performs : goal.returns-in_err-ready-clause-performs
unfolding touch
returns-in_err-ready-clause-performs g c = leave _ c.from_residual.ensures.1 c.in_err-ready.ensures.performs

pub returns-in_err-target-clause-performs : goal.returns-in_err-target-clause-performs
unfolding touch
returns-in_err-target-clause-performs g c = then _ c.in_ok-ready.ensures.performs (leave _ c.from_residual-in_err-target.ensures.1 c.in_err-target.ensures.performs)

pub touch_at-requires-clause-sound : goal.touch_at-requires-clause-sound
touch_at-requires-clause-sound g c = sound_still c.ready.new.self c.target.new.self _ c.in_ok-target.ensures.still c.in_ok-target.ensures.performs.grows.grew c.in_ok-ready.ensures.sound

pub returns-clause-performs : goal.returns-clause-performs
unfolding touch
returns-clause-performs g c = then _ c.in_ok-ready.ensures.performs (then _ c.in_ok-target.ensures.performs c.touch_at.ensures.performs)
