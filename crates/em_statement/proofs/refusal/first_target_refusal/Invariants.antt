use Rattle.std.proofs.Common.{◌≡◌, drop, map}
use Rattle.em_statement.specs.Heads.{target_refusal, first_of}
use Rattle.em_statement.proofs.refusal.first_target_refusal.Given as goal

abbrev pub invariant-loop-target : goal.invariant-loop-target
invariant-loop-target l = first_of (map (target_refusal l.mixed l.followed) l.targets) ≡ first_of (map (target_refusal l.mixed l.followed) (drop l.target-index l.targets))
