use Rattle.std.proofs.Common.{◌≡◌}
use Rattle.em_plan.specs.Jobs.{jobs_in, normal_ones, order_only_ones, pres}
use Rattle.em_plan.specs.Resuming.{numbers_in, open_in}
use Rattle.em_plan.proofs.job.remaining.Given as goal

abbrev pub invariant-loop-need : goal.invariant-loop-need
invariant-loop-need l = record {
  normal : l.some.normal ≡ pres (open_in l.marks) (numbers_in l.marks) (normal_ones l.yielded);
  order : l.some.order ≡ pres (open_in l.marks) (numbers_in l.marks) (order_only_ones l.yielded);
  jobs : l.some.jobs.items ≡ jobs_in (pres (open_in l.marks) (numbers_in l.marks) l.yielded);
}
