use Rattle.std.proofs.Common.{arith}
use Rattle.std.proofs.lemmas.Grind.{common_steps}
use Rattle.std.proofs.lemmas.List.Elements.{filter_map-append}
use Rattle.em_learning.specs.Learnt.{learnt}
use Rattle.em_learning.proofs.pairs.learnt.Goals as goal

pub loop-note-preserved : goal.loop-note-preserved
loop-note-preserved c = grind (arith, common_steps, filter_map-append)

pub returns : goal.returns
unfolding learnt
returns c = grind (arith, common_steps)
