use Rattle.std.proofs.Common.{◌≡◌, ◌++◌, drop}
use Rattle.em_steps.proofs.laps.assigned_of.Given as goal

-- those so far, and those that are left
abbrev pub invariant-loop-name : goal.invariant-loop-name
invariant-loop-name l = l.all ++ drop l.name-index l.job.assigned ≡ l.job.assigned
