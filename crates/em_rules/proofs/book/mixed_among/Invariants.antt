use Rattle.std.proofs.Common.{◌≡◌, map, drop}
use Rattle.std.specs.Prelude.{find}
use Rattle.em_rules.specs.Dots.{undotted}
use Rattle.em_rules.specs.Books.{has_other}
use Rattle.em_rules.proofs.book.mixed_among.Given as goal

-- none so far has one
abbrev pub invariant-loop-i : goal.invariant-loop-i
invariant-loop-i l = find (has_other l.kind l.rules) (map undotted (drop l.i l.targets)) ≡ find (has_other l.kind l.rules) (map undotted l.targets)
