use Rattle.std.proofs.Common.{◌≡◌, max, map}
use Rattle.em_tree.specs.Trees.{base_of, greatest}
use Rattle.em_tree.proofs.tree.Tree.base.Given as goal

abbrev pub invariant-loop-n : goal.invariant-loop-n
invariant-loop-n l = max l.base (greatest (map (λ e. e.1) l.n-iterator)) ≡ base_of l.self
