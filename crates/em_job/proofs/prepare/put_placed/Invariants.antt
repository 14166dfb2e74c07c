use Rattle.std.proofs.Common.{◌≡◌, ◌++◌, map}
use Rattle.em_job.specs.Preparing as preparing
use Rattle.em_job.proofs.prepare.put_placed.Given as goal

abbrev pub invariant-loop-command : goal.invariant-loop-command
invariant-loop-command l = l.lines ≡ l.initial.lines ++ map (preparing.placed l.place) l.yielded
