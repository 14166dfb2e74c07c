-- Equal jobs mean the same, with the makes within them.
use Rattle.std.specs.Prelude.{◌≡◌, true}
use Rattle.std.proofs.Common.{ap, subst}
use Rattle.em_run.specs.Runs.{MeansSame}
use Rattle.em_task.proofs.Same.{same_job}
use Rattle.em_task.specs.contracts.job.JobPartialEq.TheImpl as job_eq
use Rattle.em_task.specs.declared.job.Job.{Job}
use Rattle.em_task.specs.Endings.{ends_after}
use Rattle.em_nesting.specs.Nested.{MakesAll}

pub same_meaning : (a b : Job) → job_eq.ghosts.eq a b ≡ true → MeansSame (λ (j : Job). j.job) (λ (j : Job). ends_after j.flags) MakesAll a b
same_meaning a b h = let e = same_job a b h in record {
  number = ap (λ (j : Job). j.job) e;
  ends = λ o. ap (λ (j : Job). ends_after j.flags o) e;
  effects = λ s f n. subst (λ (j : Job). MakesAll j s f n) e;
}
