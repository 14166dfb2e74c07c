use Rattle.std.proofs.Common.{◌≡◌, ◌-◌, length, drop}
use Rattle.em_glob.specs.Patterns.{is_pattern}
use Rattle.em_glob.proofs.pattern.is_pattern.Given as goal

abbrev pub invariant-loop-piece : goal.invariant-loop-piece
invariant-loop-piece l = is_pattern l.pattern ≡ is_pattern (drop l.at l.pattern)

abbrev pub decreases-loop-piece : goal.decreases-loop-piece
decreases-loop-piece l = length l.pattern - l.at
