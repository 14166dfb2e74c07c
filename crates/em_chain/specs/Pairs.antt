-- Pairs of a job and what a path becomes: a node, or absent.
use Rattle.std.specs.Prelude.{ℕ, List, Option}
use Rattle.em_tree.specs.declared.node.Node.{Node}

abbrev pub Pairs : Type 0
Pairs = List (ℕ × Option Node)
