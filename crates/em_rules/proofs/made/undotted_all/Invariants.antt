use Rattle.std.proofs.Common.{◌≡◌, map}
use Rattle.em_rules.specs.Dots.{undotted}
use Rattle.em_rules.proofs.made.undotted_all.Given as goal

abbrev pub invariant-loop-name : goal.invariant-loop-name
invariant-loop-name l = l.known.items ≡ map undotted l.yielded
