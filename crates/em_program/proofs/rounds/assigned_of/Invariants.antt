use Rattle.std.proofs.Common.{◌≡◌, ◌++◌, drop}
use Rattle.em_program.proofs.rounds.assigned_of.Given as goal

abbrev pub invariant-loop-name : goal.invariant-loop-name
invariant-loop-name l = l.all ++ drop l.name-index l.assigned ≡ l.assigned
