-- Equal jobs mean the same.
use Rattle.std.specs.Prelude.{◌≡◌, true}
use Rattle.std.proofs.Common.{ap, subst}
use Rattle.em_run.specs.Runs.{MeansSame}
use Rattle.em_task.proofs.Same.{same_job}
use Rattle.em_task.specs.contracts.job.JobPartialEq.TheImpl as job_eq
use Rattle.em_task.specs.declared.job.Job.{Job}
use Rattle.em_job.specs.Effects.{Makes}
use Rattle.em_job.specs.Making.{ends_after}

pub same_meaning : (a b : Job) → job_eq.ghosts.eq a b ≡ true → MeansSame (λ (j : Job). j.job) (λ (j : Job). ends_after j.flags) Makes a b
same_meaning a b h = let e = same_job a b h in record {
  number = ap (λ (j : Job). j.job) e;
  ends = λ o. ap (λ (j : Job). ends_after j.flags o) e;
  effects = λ s f n. subst (λ (j : Job). Makes j s f n) e;
}
