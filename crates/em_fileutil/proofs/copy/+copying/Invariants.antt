use Rattle.std.proofs.Common.{◌+◌, ◌*◌, drop}
use Rattle.em_view.specs.Ends.{is_want}
use Rattle.em_view.proofs.Doing.{Goes}
use Rattle.em_utility.specs.Operands.{each}
use Rattle.em_fileutil.specs.Copying.{copy_child, copy_beneath}
use Rattle.em_fileutil.proofs.copy.+copying.Given as goal

abbrev pub decreases-copy_linked : goal.decreases-copy_linked
decreases-copy_linked g l = 5 * l.left + 4

abbrev pub decreases-copy_node : goal.decreases-copy_node
decreases-copy_node g l = 5 * l.left + 3

abbrev pub decreases-copy_tree : goal.decreases-copy_tree
decreases-copy_tree g l = 5 * l.left + 2

abbrev pub decreases-copy_each : goal.decreases-copy_each
decreases-copy_each g l = 5 * l.left + 1

abbrev pub decreases-copy_child : goal.decreases-copy_child
decreases-copy_child g l = 5 * l.left

-- whatever goes on with the names left goes on with the whole
abbrev pub invariant-copy_each-loop-name : goal.invariant-copy_each-loop-name
invariant-copy_each-loop-name g l = Goes is_want g.V.View.tells l.initial.desk l.desk l.initial.done l.done
    (each l.utility (copy_child (copy_beneath l.utility l.manner l.left) l.source l.target) l.names)
    (each l.utility (copy_child (copy_beneath l.utility l.manner l.left) l.source l.target) (drop l.name-index l.names))
