use Rattle.std.proofs.Common.{refl}
use Rattle.em_plan.proofs.walk.drop_circular.Goals as goal

pub returns-clause-ok : goal.returns-clause-ok
returns-clause-ok c = rw (c.in_ok-push.ensures.ok, c.later.ensures, c.in_ok-add.ensures.ok, c.bytes-2.ensures, c.in_ok-text.ensures, c.bytes.ensures) refl
