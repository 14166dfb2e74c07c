use Rattle.std.proofs.Common.{◌≡◌, ◌++◌, drop}
use Rattle.em_job.proofs.making.assigned_of.Given as goal

-- the pairs so far, and those that are left
abbrev pub invariant-loop-name : goal.invariant-loop-name
invariant-loop-name l = l.pairs ++ drop l.name-index l.order.assigned ≡ l.order.assigned
