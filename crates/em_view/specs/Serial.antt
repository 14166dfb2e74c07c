-- The state behind an effect: what it changes is laid over the tree, and its outcome appended.
use Rattle.std.specs.Prelude.{[], ◌∷◌, ◌++◌}
use Rattle.em_tree.specs.Trees.{laid_over}
use Rattle.em_tree.specs.declared.state.State.{State}
use Rattle.em_view.specs.declared.effect.Effect.{Effect}

abbrev pub after : Effect → State → State
after e s = record { tree = laid_over e.changes s.tree; outcomes = s.outcomes ++ e.outcome ∷ [] }
