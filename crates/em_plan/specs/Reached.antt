-- The names that goals reach.
--     Reached says goals n      n is in every set of names that has the goals and, with a name, the targets and prerequisites of its units
--     IsPlain says              the units of a name are the same whatever is known
--     Overfull says Is          more units than a plan may have, of names that are so
use Rattle.std.specs.Prelude.{◌≡◌, ℕ, ◌+◌, ◌<◌, ◌≤◌, Bool, true, false, List, [], length, Some, slice_get}
use Rattle.std.specs.List.{All}
use Rattle.em_plan.specs.declared.making.Making.{Making}
use Rattle.em_plan.specs.declared.planned.PlanJob.{PlanJob}
use Rattle.em_plan.specs.declared.walk.Walked.{Walked}
use Rattle.em_plan.specs.Jobs.{numbers_of}
use Rattle.em_plan.specs.Order.{limit, Says, Open, AreApart, is_open, units_left}
use Rattle.em_plan.specs.Serial.{IsSerial}

pub record IsClosed (says : Says) (set : List ℕ → Bool) : Type 0 where
  pub targets : (known : List ℕ → Bool) (n : List ℕ) → set n ≡ true → All (λ m. All (λ t. set t ≡ true) m.targets) (says known n)
  pub needs : (known : List ℕ → Bool) (n : List ℕ) → set n ≡ true → All (λ m. All (λ x. set x.name ≡ true) m.needs) (says known n)

abbrev pub Reached : Says → List (List ℕ) → List ℕ → Type 0
Reached says goals n = (set : List ℕ → Bool) → IsClosed says set → All (λ g. set g ≡ true) goals → set n ≡ true

-- so it is where no unit has a target beside its name
abbrev pub IsPlain : Says → Type 0
IsPlain says = (known other : List ℕ → Bool) (n : List ℕ) → says known n ≡ says other n

-- an open unit is the first of its trigger that has no job
pub record IsNextOpen (says : Says) (jobs : List PlanJob) (u : Open) : Type 0 where
  pub known : List ℕ → Bool
  pub making : Making
  pub at : slice_get (says known u.trigger) (length (numbers_of jobs u.trigger)) ≡ Some making
  pub targets : u.targets ≡ making.targets

-- different units that have jobs or are open are as many as a plan may have, and a name has one more
pub record Overfull (says : Says) (Is : List ℕ → Type 0) : Type 0 where
  pub walked : Walked
  pub stack : List Open
  pub name : List ℕ
  pub serial : IsSerial says [] walked.jobs
  pub apart : AreApart stack
  pub next : All (IsNextOpen says walked.jobs) stack
  pub full : limit ≤ length walked.jobs + length stack
  pub shut : is_open stack name ≡ false
  pub left : 0 < length (units_left says stack walked name)
  pub jobs_so : All (λ j. All Is j.targets) walked.jobs
  pub stack_so : All (λ u. All Is u.targets) stack
  pub name_so : Is name
