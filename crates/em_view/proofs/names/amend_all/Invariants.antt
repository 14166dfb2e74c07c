use Rattle.std.proofs.Common.{◌≡◌}
use Rattle.em_tree.specs.Names.{IsNameList}
use Rattle.em_view.specs.Names.{amended_all}
use Rattle.em_view.proofs.names.amend_all.Given as goal

abbrev pub invariant-loop-path : goal.invariant-loop-path
invariant-loop-path l = (amended_all l.changes l.path-iterator l.set.keys ≡ amended_all l.changes l.fn.paths l.initial.set.keys) × IsNameList l.set.keys
