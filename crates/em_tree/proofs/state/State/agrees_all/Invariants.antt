use Rattle.std.proofs.Common.{take}
use Rattle.em_tree.specs.Answers.{Agrees}
use Rattle.em_tree.specs.Usages.{flat}
use Rattle.em_tree.proofs.state.State.agrees_all.Given as goal

abbrev pub invariant-loop-look : goal.invariant-loop-look
invariant-loop-look l = Agrees l.self (flat (take l.look-index l.look-items))
