use Rattle.std.proofs.Common.{◌≡◌, ◌≤◌, drop, length}
use Rattle.em_rules.specs.Groups.{place_from}
use Rattle.em_rules.proofs.rule.place_among.Given as goal

-- it is none of those so far
abbrev pub invariant-loop-i : goal.invariant-loop-i
invariant-loop-i l = (place_from l.i (drop l.i l.targets) l.name ≡ place_from 0 l.targets l.name) × (l.i ≤ length l.targets)
