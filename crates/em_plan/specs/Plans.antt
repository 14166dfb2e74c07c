-- The plan.
--     asked goals default      the goals that are given, or else the default goal
--     plan_for says goals      the jobs in serial order, the numbers of each goal's jobs, what is said of circles
--     plan_of ..               the plan of a book for goals, on a tree
use Rattle.std.specs.Prelude.{ℕ, List, [], ◌∷◌, map, Option, Some, None, Result, Ok, Err}
use Rattle.em_tree.specs.Trees.{Table}
use Rattle.em_rules.specs.declared.book.Book.{Book}
use Rattle.em_plan.specs.declared.planned.Plan.{Plan}
use Rattle.em_plan.specs.declared.no.PlanNo.{PlanNo}
use Rattle.em_plan.specs.declared.no.PlanNo.TheVariants.{NoTargets}
use Rattle.em_plan.specs.Once.{each_once}
use Rattle.em_plan.specs.Jobs.{numbers_of}
use Rattle.em_plan.specs.Makings.{making_of}
use Rattle.em_plan.specs.Order.{Says, Walking, visit_all, nothing_walked}

abbrev pub asked : List (List ℕ) → Option (List ℕ) → List (List ℕ)
asked [] None = []
asked [] (Some goal) = goal ∷ []
asked (g ∷ gs) default = g ∷ gs

abbrev pub as_plan : List (List ℕ) → Walking → Result Plan PlanNo
as_plan goals (Ok w) = Ok (record { jobs = w.jobs; goals = map (numbers_of w.jobs) goals; notes = w.notes })
as_plan goals (Err e) = Err e

abbrev pub planned : Says → List (List ℕ) → Result Plan PlanNo
planned says goals = as_plan goals (visit_all says goals nothing_walked)

abbrev pub plan_for : Says → List (List ℕ) → Result Plan PlanNo
plan_for says [] = Err NoTargets
plan_for says (g ∷ gs) = planned says (each_once [] (g ∷ gs))

unfoldable pub plan_of : Book → List (List ℕ) → Table → List ℕ → Result Plan PlanNo
plan_of book goals tree cwd = plan_for (making_of book.rules book.patterns tree cwd) (asked goals book.default_goal)
