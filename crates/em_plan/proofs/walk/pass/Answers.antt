use Rattle.std.proofs.Common.{refl}
use Rattle.em_plan.proofs.walk.pass.Goals as goal

pub returns-clause-ok : goal.returns-clause-ok
returns-clause-ok c = rw (c.in_ok-push.ensures.ok, c.later.ensures) refl
