use Rattle.std.proofs.Common.{◌≡◌, map, drop, Some}
use Rattle.em_rules.specs.Dots.{undotted}
use Rattle.em_rules.specs.Static.{unmatched_by}
use Rattle.em_rules.proofs.made.unmatched_in.Given as goal

-- all so far match
abbrev pub invariant-loop-i : goal.invariant-loop-i
invariant-loop-i l = unmatched_by (Some l.form) (map undotted (drop l.i l.targets)) ≡ unmatched_by (Some l.form) (map undotted l.targets)
