-- The jobs of a plan, and what their outcomes mean for the run.
--     ends_after flags o       the serial run ends after a job with this outcome
--     covers names n           a special target speaks of the name
--     job_of .. i plan         the job of this number
--     jobs_of ..               all of them
use Rattle.std.specs.Prelude.{ℕ, suc, ◌||◌, Bool, true, List, [], ◌∷◌, ◌++◌, ◌≡◌}
use Rattle.std.specs.List.{filter}
use Rattle.em_path.specs.Paths.{root_text}
use Rattle.em_path.specs.Reading.{resolved_text}
use Rattle.em_cmdline.specs.declared.order.Order.{Order}
use Rattle.em_rules.specs.declared.book.Book.{Book}
use Rattle.em_rules.specs.declared.special.Names.{Names}
use Rattle.em_rules.specs.declared.special.Names.TheVariants as names
use Rattle.em_rules.specs.Rules.{is_in, is_phony, special}
use Rattle.em_plan.specs.declared.planned.PlanJob.{PlanJob}
use Rattle.em_recipe.specs.Automatic.{names_of}
pub use Rattle.em_task.specs.Endings.{ends_after, flags_of}
use Rattle.em_task.specs.declared.job.Job.{Job}
use Rattle.em_job.specs.declared.making.Common.{Common}

abbrev pub covers : Names → List ℕ → Bool
covers names.All n = true
covers (names.Listed ns) n = is_in ns n

module _ (book : Book) (order : Order) (base : ℕ) where
  abbrev pub job_of : ℕ → PlanJob → Job
  job_of i plan = record {
    job = i;
    base = base;
    fuel = order.fuel;
    cwd = resolved_text root_text order.dir;
    flags = flags_of order;
    quiet = order.silent || covers (special book.rules).silent plan.target;
    lenient = order.ignore || covers (special book.rules).ignore plan.target;
    delete_on_error = (special book.rules).delete_on_error;
    phony = filter (is_phony book.rules) (plan.targets ++ names_of plan.normal);
    plan = plan;
    vars = book.vars;
    assigned = order.assigned;
  }

  abbrev pub jobs_from : ℕ → List PlanJob → List Job
  jobs_from i [] = []
  jobs_from i (p ∷ ps) = job_of i p ∷ jobs_from (suc i) ps

  unfoldable pub jobs_of : List PlanJob → List Job
  jobs_of plans = jobs_from 0 plans

  -- what all jobs have in common
  pub record IsCommon (c : Common) : Type 0 where
    pub stamp : c.base ≡ base
    pub units : c.fuel ≡ order.fuel
    pub cwd : c.cwd ≡ resolved_text root_text order.dir
    pub flags : c.flags ≡ flags_of order
    pub says : c.special ≡ special book.rules
    pub vars : c.vars ≡ book.vars
    pub assigned : c.assigned ≡ order.assigned
