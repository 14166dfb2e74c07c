use Rattle.std.proofs.Common.{◌≡◌, ◌++◌}
use Rattle.em_workers.proofs.phases.joined.Given as goal

abbrev pub invariant-loop-note : goal.invariant-loop-note
invariant-loop-note l = l.all ≡ l.fn.notes ++ l.yielded
