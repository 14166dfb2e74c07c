use Rattle.std.proofs.Common.{subst, append-nil, []}
use Rattle.em_insight.specs.Links.{IsWalk}
use Rattle.em_insight.proofs.heaviest.walk.Goals as goal

pub returns : goal.returns
returns c = subst (IsWalk c.args.before.now c.args.last) (append-nil c.loop-next.back.items) (c.loop-next.invariant.walked [] c.in_default.is)
