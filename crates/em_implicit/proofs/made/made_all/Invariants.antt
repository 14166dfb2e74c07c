use Rattle.std.proofs.Common.{◌≡◌, map, take}
use Rattle.em_implicit.specs.Matches.{made}
use Rattle.em_implicit.proofs.made.made_all.Given as goal

abbrev pub invariant-loop-pattern : goal.invariant-loop-pattern
invariant-loop-pattern l = l.names ≡ map (made l.found.dir.now l.found.stem.now) (take l.pattern-index l.patterns)
