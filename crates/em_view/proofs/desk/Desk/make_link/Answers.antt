use Rattle.em_view.specs.Rows.{make_link}
use Rattle.em_view.proofs.Performing.{then, leave}
use Rattle.em_view.proofs.Looking.{sound_still}
use Rattle.em_view.proofs.desk.Desk.make_link.Goals as goal

pub returns-in_err-ready-clause-performs : goal.returns-in_err-ready-clause-performs
unfolding make_link
returns-in_err-ready-clause-performs g c = leave _ c.from_residual.ensures.1 c.in_err-ready.ensures.performs

pub returns-in_err-target-clause-performs : goal.returns-in_err-target-clause-performs
unfolding make_link
returns-in_err-target-clause-performs g c = then _ c.in_ok-ready.ensures.performs (leave _ c.from_residual-in_err-target.ensures.1 c.in_err-target.ensures.performs)

pub make_link_at-requires-clause-sound : goal.make_link_at-requires-clause-sound
make_link_at-requires-clause-sound g c = sound_still c.ready.new.self c.target.new.self _ c.in_ok-target.ensures.still c.in_ok-target.ensures.performs.grows.grew c.in_ok-ready.ensures.sound

pub returns-clause-performs : goal.returns-clause-performs
unfolding make_link
returns-clause-performs g c = then _ c.in_ok-ready.ensures.performs (then _ c.in_ok-target.ensures.performs c.make_link_at.ensures.performs)
