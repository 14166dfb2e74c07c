use Rattle.std.proofs.Common.{◌≡◌, ◌++◌}
use Rattle.em_vars.proofs.Named.{seen}
use Rattle.em_vars.proofs.vars.Vars.copy.Given as goal

abbrev pub invariant-loop-name : goal.invariant-loop-name
invariant-loop-name l = l.copied ++ seen (λ k. k.items) l.name-iterator ≡ l.self
