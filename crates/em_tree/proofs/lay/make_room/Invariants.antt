use Rattle.std.proofs.Common.{◌≡◌, List, ℕ, None, take}
use Rattle.std.specs.FinMap.{find, get}
use Rattle.em_tree.specs.Index.{IsIndex}
use Rattle.em_tree.specs.Trees.{changed_all}
use Rattle.em_tree.specs.Steps.{changes_of, removals, HasRoom}
use Rattle.em_tree.proofs.Maps.{order}
use Rattle.em_tree.proofs.lay.make_room.Given as goal

abbrev pub invariant-loop-step : goal.invariant-loop-step
invariant-loop-step l = record {
  index : IsIndex l.children l.nodes;
  undo : changed_all (removals l.added.items) l.nodes ≡ changed_all (removals l.initial.added.items) l.initial.nodes;
  room : HasRoom (changes_of (take l.step-index l.steps)) l.nodes;
  others : (q : List ℕ) → find order q (changes_of l.steps) ≡ None → get l.nodes q ≡ get l.initial.nodes q;
}
