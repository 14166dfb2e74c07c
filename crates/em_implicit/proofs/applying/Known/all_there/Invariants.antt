use Rattle.std.proofs.Common.{drop}
use Rattle.em_implicit.specs.Asking.{Follows}
use Rattle.em_implicit.specs.Seeking.{all_there}
use Rattle.em_implicit.proofs.applying.Known.all_there.Given as goal

-- all so far are there
abbrev pub invariant-loop-name : goal.invariant-loop-name
invariant-loop-name g l = Follows g.T.There.asks l.initial.there l.there (all_there l.self.rules.now l.self.cwd.now l.names) (all_there l.self.rules.now l.self.cwd.now (drop l.name-index l.names))
