use Rattle.std.proofs.Common.{◌+◌, ◌*◌, drop}
use Rattle.std.specs.Prelude.{codes}
use Rattle.em_view.specs.Ends.{is_want}
use Rattle.em_view.proofs.Doing.{Goes}
use Rattle.em_utility.specs.Operands.{each}
use Rattle.em_fileutil.specs.Removing.{remove_child, remove_beneath}
use Rattle.em_fileutil.proofs.remove.+removal.Given as goal

abbrev pub decreases-remove_node : goal.decreases-remove_node
decreases-remove_node g l = 5 * l.left + 4

abbrev pub decreases-remove_other : goal.decreases-remove_other
decreases-remove_other g l = 5 * l.left + 3

abbrev pub decreases-remove_tree : goal.decreases-remove_tree
decreases-remove_tree g l = 5 * l.left + 2

abbrev pub decreases-remove_each : goal.decreases-remove_each
decreases-remove_each g l = 5 * l.left + 1

abbrev pub decreases-remove_child : goal.decreases-remove_child
decreases-remove_child g l = 5 * l.left

-- whatever goes on with the names left goes on with the whole
abbrev pub invariant-remove_each-loop-name : goal.invariant-remove_each-loop-name
invariant-remove_each-loop-name g l = Goes is_want g.V.View.tells l.initial.desk l.desk l.initial.done l.done
    (each (codes "rm") (remove_child (remove_beneath l.how l.left) l.operand) l.names)
    (each (codes "rm") (remove_child (remove_beneath l.how l.left) l.operand) (drop l.name-index l.names))
