use Rattle.std.proofs.Common.{drop, map}
use Rattle.em_implicit.specs.Asking.{Follows}
use Rattle.em_implicit.specs.Seeking.{seek, seen}
use Rattle.em_implicit.proofs.seek.seek.Given as goal

-- none so far applies
abbrev pub invariant-loop-candidate : goal.invariant-loop-candidate
invariant-loop-candidate g l = Follows g.T.There.asks l.initial.there l.there (seek l.known.rules.now l.known.cwd.now (map seen l.candidates)) (seek l.known.rules.now l.known.cwd.now (map seen (drop l.candidate-index l.candidates)))
