use Rattle.std.proofs.Common.{◌≡◌, drop, map}
use Rattle.em_statement.specs.Heads.{prerequisite_refusal, first_of}
use Rattle.em_statement.proofs.refusal.first_prerequisite_refusal.Given as goal

abbrev pub invariant-loop-prerequisite : goal.invariant-loop-prerequisite
invariant-loop-prerequisite l = first_of (map (prerequisite_refusal) l.prerequisites) ≡ first_of (map (prerequisite_refusal) (drop l.prerequisite-index l.prerequisites))
