use Rattle.std.proofs.Common.{rules}
use Rattle.em_remake.specs.Remaking.{goals_of}
use Rattle.em_remake.proofs.goals.goals_of.Goals as goal

pub returns : goal.returns
unfolding goals_of
returns c = search rules
