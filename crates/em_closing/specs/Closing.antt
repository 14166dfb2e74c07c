-- What is said of the goals at the end of a build.
--     goals_of book asks       the goals of a plan, where these are asked for: their names, and whether these are phony
--     goal_line from g ks      what is said of a goal with these jobs: that it wasn't remade, that there was nothing to do for it, or nothing
--     goal_lines from gs kss   the same of several goals. The jobs that are first reached through a goal are those with numbers from one behind the
--                              greatest of the goals before it up to its own last one; `from` is the first of them
--     closing                  what is said of all goals
use Rattle.std.specs.Prelude.{ℕ, ◌+◌, ◌-◌, Bool, true, false, ◌||◌, not, List, [], ◌∷◌, ◌++◌, length, map, Option, Some, None, is_some, drop, take, slice_get, max, codes, if◌then◌else◌}
use Rattle.std.specs.List.{list_any}
use Rattle.em_tree.specs.declared.outcome.Outcome.{Outcome}
use Rattle.em_tree.specs.declared.outcome.Outcome.TheVariants as outcome
use Rattle.em_rules.specs.declared.book.Book.{Book}
use Rattle.em_rules.specs.Rules.{is_phony}
use Rattle.em_plan.specs.declared.planned.Plan.{Plan}
use Rattle.em_plan.specs.declared.planned.PlanJob.{PlanJob}
use Rattle.em_plan.specs.Once.{each_once}
use Rattle.em_plan.specs.Plans.{asked}
use Rattle.em_closing.specs.declared.goals.Goal.{Goal}

-- ---- the goals

abbrev pub goal_in : Book → List ℕ → Goal
goal_in book name = record { name = name; phony = is_phony book.rules name }

abbrev pub goals_of : Book → List (List ℕ) → List Goal
goals_of book asks = map (goal_in book) (each_once [] (asked asks book.default_goal))

-- ---- the lines

abbrev pub not_remade : List ℕ → List ℕ
not_remade goal = codes "emake: Target '" ++ goal ++ codes "' not remade because of errors.\n"

abbrev pub nothing_to_do : List ℕ → List ℕ
nothing_to_do goal = codes "emake: Nothing to be done for '" ++ goal ++ codes "'.\n"

abbrev pub up_to_date : List ℕ → List ℕ
up_to_date goal = codes "emake: '" ++ goal ++ codes "' is up to date.\n"

-- ---- what is known of a job, where it is there

abbrev pub is_made : Outcome → Bool
is_made outcome.Made = true
is_made _ = false

-- it makes the build a failure
abbrev pub is_faulty : Outcome → Bool
is_faulty (outcome.Failed status) = true
is_faulty outcome.NoRule = true
is_faulty (outcome.Halted text place) = true
is_faulty _ = false

abbrev pub was_made : Option Outcome → Bool
was_made (Some outcome.Made) = true
was_made _ = false

abbrev pub was_skipped : Option Outcome → Bool
was_skipped (Some outcome.Skipped) = true
was_skipped _ = false

-- it failed, or there was no rule for it
abbrev pub has_failed : Option Outcome → Bool
has_failed (Some (outcome.Failed n)) = true
has_failed (Some outcome.NoRule) = true
has_failed _ = false

abbrev pub has_recipe : Option PlanJob → Bool
has_recipe (Some job) = is_some job.recipe
has_recipe None = false

-- ---- the closing text

abbrev pub behind : Option ℕ → ℕ
behind None = 0
behind (Some k) = k + 1

-- one more than the number of a goal's last job. A goal's numbers rise
abbrev pub end_of : List ℕ → ℕ
end_of ks = behind (slice_get ks (length ks - 1))

-- of a goal for which nothing was made. A goal without a rule has no recipe
abbrev pub idle : Goal → Bool → List ℕ
idle goal recipe = if goal.phony || not recipe then nothing_to_do goal.name else up_to_date goal.name

-- one of the goal's own jobs ended Made, or one with a number from `from` up to them
abbrev pub has_made : List Outcome → ℕ → List ℕ → Bool
has_made outcomes from ks = list_any (λ k. was_made (slice_get outcomes k)) ks || list_any is_made (drop from (take (end_of ks) outcomes))

module _ (silent : Bool) (plan : Plan) (outcomes : List Outcome) where
  -- a failure was told before
  abbrev pub goal_line : ℕ → Goal → List ℕ → List ℕ
  goal_line from goal ks =
      if list_any (λ k. was_skipped (slice_get outcomes k)) ks then not_remade goal.name
      else if list_any (λ k. has_failed (slice_get outcomes k)) ks then []
      else if silent || has_made outcomes from ks then []
      else idle goal (list_any (λ k. has_recipe (slice_get plan.jobs k)) ks)

  abbrev pub goal_lines : ℕ → List Goal → List (List ℕ) → List ℕ
  goal_lines from (g ∷ gs) (ks ∷ kss) = goal_line from g ks ++ goal_lines (max from (end_of ks)) gs kss
  goal_lines from _ _ = []

  -- nothing, where a job ended the run
  abbrev pub closing : List Goal → Bool → List ℕ
  closing goals early = if early then [] else goal_lines 0 goals plan.goals
