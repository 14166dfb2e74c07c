use Rattle.std.proofs.Common.{◌≡◌, take}
use Rattle.em_tree.proofs.names.NameList.copy.Given as goal

abbrev pub invariant-loop-name : goal.invariant-loop-name
invariant-loop-name l = l.held.items ≡ take l.name-index l.name-items
