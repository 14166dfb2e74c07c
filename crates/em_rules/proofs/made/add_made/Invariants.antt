use Rattle.std.proofs.Common.{◌≡◌, ◌++◌, take}
use Rattle.em_rules.specs.Static.{made}
use Rattle.em_rules.proofs.made.add_made.Given as goal

abbrev pub invariant-loop-pattern : goal.invariant-loop-pattern
invariant-loop-pattern l = l.names ≡ l.fn.names ++ made l.stem (take l.pattern-index l.patterns)
