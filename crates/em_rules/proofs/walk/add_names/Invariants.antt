use Rattle.std.proofs.Common.{◌≡◌, ◌++◌, take}
use Rattle.em_rules.proofs.walk.add_names.Given as goal

abbrev pub invariant-loop-name : goal.invariant-loop-name
invariant-loop-name l = l.list ≡ l.fn.list ++ take l.name-index l.names
