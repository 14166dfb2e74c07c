use Rattle.std.proofs.Common.{◌≡◌, vec_len}
use Rattle.em_tree.specs.Index.{IsIndex}
use Rattle.em_tree.specs.Trees.{changed_all}
use Rattle.em_tree.specs.Steps.{removals}
use Rattle.em_tree.proofs.lay.undo.Given as goal

abbrev pub invariant-loop-place : goal.invariant-loop-place
invariant-loop-place l = record { index : IsIndex l.children l.nodes; left : changed_all (removals l.rest.items) l.nodes ≡ changed_all (removals l.initial.rest.items) l.initial.nodes }

abbrev pub decreases-loop-place : goal.decreases-loop-place
decreases-loop-place l = vec_len l.rest
