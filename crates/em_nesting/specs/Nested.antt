-- What a job makes of a state, with the makes that its lines begin.
--     making_of ..        the job of this number in a line's make
--     left_of end         what is left of a job that has come to this end
--     MakesAll j s e n    the job has this effect on the state, and takes so much fuel
use Rattle.std.specs.Prelude.{◌≡◌, ℕ, ◌-◌, List, [], Option, Some, None, slice_get}
use Rattle.em_tree.specs.declared.outcome.Outcome.{Outcome}
use Rattle.em_tree.specs.declared.state.State.{State}
use Rattle.em_view.specs.declared.effect.Effect.{Effect}
use Rattle.em_view.specs.Actions.{snapshot}
use Rattle.em_rules.specs.declared.book.Book.{Book}
use Rattle.em_plan.specs.declared.planned.Plan.{Plan}
use Rattle.em_plan.specs.declared.planned.PlanJob.{PlanJob}
use Rattle.em_exec.specs.declared.turn.SubLine.{SubLine}
use Rattle.em_script.specs.Strands.{Plot, from_output}
use Rattle.em_task.specs.declared.job.Job.{Job}
use Rattle.em_job.specs.Effects.{begin, saying}
use Rattle.em_job.specs.Making.{job_of}
use Rattle.em_steps.specs.Laps.{fresh_plot, nothing_left}
use Rattle.em_submake.specs.Ways.{Ended, settled}
use Rattle.em_submake.specs.Submakes.{made}

-- its stamps, its number and its fuel are those of the job around it: those of this one are read by
-- nothing
abbrev pub planned_job : SubLine → ℕ → Book → List Outcome → Option PlanJob → Plot
planned_job l i book known (Some p) = fresh_plot (job_of book l.order 0 i p) l.depth (Some known)
planned_job l i book known None = from_output saying nothing_left

abbrev pub making_of : SubLine → Plan → ℕ → Book → List Outcome → Plot
making_of l plan i book known = planned_job l i book known (slice_get plan.jobs i)

abbrev pub left_of : Ended Outcome → Effect
left_of end = record { changes = end.1.changes; output = (settled end.0).1; outcome = (settled end.0).0 }

pub record MakesAll (j : Job) (s : State) (e : Effect) (n : ℕ) : Type 0 where
  pub end : Ended Outcome
  pub comes : made making_of (fresh_plot j 0 None) [] (snapshot s) (begin j) end
  pub effect : e ≡ left_of end
  pub fuel : n ≡ (begin j).given - end.1.fuel
