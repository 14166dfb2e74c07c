-- What a plan's jobs are, said of the list alone.
--     AreMade before jobs           behind the jobs before, each job is made from those in front of it
--     IsSerial says before jobs     each is also that of the next unit of its trigger
--     StandsBefore jobs k p         a prerequisite's jobs have its name among their targets, and stand before job k; that it
--                                   has any isn't said here, but by `law_dropped`: each of its units has one
use Rattle.std.specs.Prelude.{◌≡◌, ℕ, ◌<◌, Bool, true, List, [], ◌∷◌, ◌++◌, length, Some, slice_get, IsSomeAnd}
use Rattle.std.specs.List.{All}
use Rattle.em_plan.specs.declared.making.Making.{Making}
use Rattle.em_plan.specs.declared.planned.Pre.{Pre}
use Rattle.em_plan.specs.declared.planned.PlanJob.{PlanJob}
use Rattle.em_plan.specs.Once.{is_among}
use Rattle.em_plan.specs.Jobs.{numbers_of, job_of}
use Rattle.em_plan.specs.Order.{Says}

pub record IsMade (before : List PlanJob) (job : PlanJob) : Type 0 where
  pub is_open : List ℕ → Bool
  pub making : Making
  pub is : job ≡ job_of is_open (numbers_of before) job.target job.needed_by making

-- each job has this to those before it
abbrev pub AreEach : (List PlanJob → PlanJob → Type 0) → List PlanJob → List PlanJob → Type 0
AreEach Next before [] = Unit {0}
AreEach Next before (job ∷ jobs) = Next before job × AreEach Next (before ++ job ∷ []) jobs

abbrev pub AreMade : List PlanJob → List PlanJob → Type 0
AreMade before jobs = AreEach IsMade before jobs

-- the job of the first unit of its trigger that has none among the jobs before
pub record IsNext (says : Says) (before : List PlanJob) (job : PlanJob) : Type 0 where
  pub known : List ℕ → Bool
  pub is_open : List ℕ → Bool
  pub making : Making
  pub at : slice_get (says known job.target) (length (numbers_of before job.target)) ≡ Some making
  pub is : job ≡ job_of is_open (numbers_of before) job.target job.needed_by making

abbrev pub IsSerial : Says → List PlanJob → List PlanJob → Type 0
IsSerial says before jobs = AreEach (IsNext says) before jobs

abbrev pub StandsBefore : List PlanJob → ℕ → Pre → Type 0
StandsBefore jobs k p = All (λ i. (i < k) × IsSomeAnd (slice_get jobs i) (λ job. is_among job.targets p.name ≡ true)) p.jobs
