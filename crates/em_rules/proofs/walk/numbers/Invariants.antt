use Rattle.std.proofs.Common.{◌≡◌, ◌++◌, drop}
use Rattle.em_rules.specs.Rules.{numbers_of, numbers_from}
use Rattle.em_rules.proofs.walk.numbers.Given as goal

-- what was found, and what is left
abbrev pub invariant-loop-i : goal.invariant-loop-i
invariant-loop-i l = l.numbers ++ numbers_from l.i (drop l.i l.rules) l.name ≡ numbers_of l.rules l.name
