use Rattle.std.proofs.Common.{◌≡◌, ◌++◌, drop}
use Rattle.em_job.specs.Making.{jobs_from}
use Rattle.em_job.proofs.making.specs.Given as goal

abbrev pub invariant-loop-planned : goal.invariant-loop-planned
invariant-loop-planned l = record {
  number : l.number ≡ l.planned-index;
  whole : l.specs.items ++ jobs_from l.book l.order l.base l.planned-index (drop l.planned-index l.plan.jobs) ≡ jobs_from l.book l.order l.base 0 l.plan.jobs;
}
