use Rattle.std.proofs.Common.{◌≡◌, vec_len}
use Rattle.std.specs.Prelude.{T}
use Rattle.std.specs.FinMap.{is_sorted}
use Rattle.em_tree.specs.Index.{IsIndex}
use Rattle.em_tree.specs.Trees.{changed_all}
use Rattle.em_tree.specs.Steps.{changes_of, HasRoom}
use Rattle.em_tree.proofs.Maps.{order}
use Rattle.em_tree.proofs.lay.apply.Given as goal

abbrev pub invariant-loop-step : goal.invariant-loop-step
invariant-loop-step l = record {
  index : IsIndex l.children l.nodes;
  sorted : T (is_sorted order (changes_of l.rest.items));
  room : HasRoom (changes_of l.rest.items) l.nodes;
  left : changed_all (changes_of l.rest.items) l.nodes ≡ changed_all (changes_of l.initial.rest.items) l.initial.nodes;
}

abbrev pub decreases-loop-step : goal.decreases-loop-step
decreases-loop-step l = vec_len l.rest
