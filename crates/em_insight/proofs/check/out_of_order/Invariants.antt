use Rattle.std.proofs.Common.{◌≡◌, drop}
use Rattle.em_insight.specs.Jobs.{out_of_order}
use Rattle.em_insight.proofs.check.out_of_order.Given as goal

abbrev pub invariant-loop-job : goal.invariant-loop-job
invariant-loop-job l = out_of_order l.job (drop l.job l.lines) ≡ out_of_order 0 l.lines
