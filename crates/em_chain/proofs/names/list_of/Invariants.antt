use Rattle.std.proofs.Common.{◌≡◌, ◌++◌}
use Rattle.em_chain.proofs.names.list_of.Given as goal

abbrev pub invariant-loop-name : goal.invariant-loop-name
invariant-loop-name l = l.names ++ l.name-iterator ≡ l.set.keys
