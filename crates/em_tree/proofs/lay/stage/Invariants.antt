use Rattle.std.proofs.Common.{◌≡◌, ◌++◌}
use Rattle.std.specs.FinMap.{entries}
use Rattle.em_tree.specs.Steps.{changes_of}
use Rattle.em_tree.proofs.lay.stage.Given as goal

abbrev pub invariant-loop-p : goal.invariant-loop-p
invariant-loop-p l = changes_of l.steps.items ++ l.p-iterator ≡ entries l.d
