use Rattle.std.proofs.Common.{◌↔◌}
use Rattle.em_tree.specs.Answers.{Agrees}
use Rattle.em_tree.specs.Usages.{clear_links}
use Rattle.em_tree.proofs.state.State.is_clear.Given as goal

abbrev pub invariant-loop-left : goal.invariant-loop-left
invariant-loop-left l = Agrees l.fn.self (clear_links l.fn.n l.fn.way) ↔ Agrees l.fn.self (clear_links l.left l.at)

abbrev pub decreases-loop-left : goal.decreases-loop-left
decreases-loop-left l = l.left
