-- What a job makes of a state.
--     job j ready          all that it does, where the lines of its recipe are these by the shell's grammar
--     lines_on j s         the lines for the shell on a state
--     Makes j s e n        the job has this effect on the state, and takes so much fuel
use Rattle.std.specs.Prelude.{◌≡◌, ℕ, List, [], ◌++◌, Result, Ok, Err}
use Rattle.em_tree.specs.declared.outcome.Outcome.{Outcome}
use Rattle.em_tree.specs.declared.outcome.Outcome.TheVariants as outcome
use Rattle.em_tree.specs.declared.state.State.{State}
use Rattle.em_view.specs.declared.effect.Effect.{Effect}
use Rattle.em_view.specs.Actions.{Workspace, snapshot}
use Rattle.em_view.specs.Steps.{Steps}
use Rattle.em_view.specs.Do.{◌>>=◌}
use Rattle.em_run.specs.Meanings.{fresh, effect_by, used_by}
use Rattle.em_expand.specs.declared.spoken.Spoken.{Spoken}
use Rattle.em_task.specs.declared.job.Job.{Job}
use Rattle.em_job.specs.declared.prepare.Placed.{Placed}
use Rattle.em_job.specs.declared.ready.ParsedLine.{ParsedLine}
use Rattle.em_job.specs.declared.stop.JobStop.{JobStop}
use Rattle.em_job.specs.declared.stop.JobStop.TheVariants as stop
use Rattle.em_job.specs.Stops.{Acts, stop_text, end_of}
use Rattle.em_job.specs.Preparing.{prepare}
use Rattle.em_job.specs.Carrying.{AreRead, lines_in, course_of, carry_out}

abbrev pub silence : Spoken
silence = record { said = []; evals = [] }

abbrev pub saying : List ℕ → Spoken
saying output = record { said = output; evals = [] }

unfoldable pub steps : Job → List ParsedLine → Acts Outcome
steps j ready = do
  p ← prepare j
  carry_out j (course_of ready p)

-- a stop is told, and is how the job ends
abbrev pub closed : List ℕ → Result (Outcome × Spoken) (JobStop × Spoken) → Result (Outcome × List ℕ) (JobStop × List ℕ)
closed target (Ok (o, s)) = Ok (o, s.said)
closed target (Err (stop.NoMemory, s)) = Err (stop.NoMemory, s.said)
closed target (Err (e, s)) = Ok (end_of e, s.said ++ stop_text target e)

unfoldable pub job : Job → List ParsedLine → Steps (List ℕ) JobStop Outcome
job j ready = λ output o w. (closed j.plan.target (steps j ready (saying output) o w).0, (steps j ready (saying output) o w).1)

abbrev pub begin : Job → Workspace
begin j = fresh j.base j.job j.fuel

abbrev pub result_of : {S E A : Type 0} → Result (A × S) (E × S) → Result A E
result_of (Ok p) = Ok p.0
result_of (Err p) = Err p.0

unfoldable pub lines_on : Job → State → List Placed
lines_on j s = lines_in (result_of (prepare j silence (snapshot s) (begin j)).0)

-- memory never runs out in a meaning
abbrev pub no_end : JobStop → Outcome
no_end e = outcome.Spent

pub record Makes (j : Job) (s : State) (e : Effect) (n : ℕ) : Type 0 where
  -- the lines of the recipe, with what each is by the shell's grammar
  pub ready : List ParsedLine
  pub read : AreRead (lines_on j s) ready
  pub effect : e ≡ effect_by no_end (job j ready) (begin j) s
  pub fuel : n ≡ used_by (job j ready) (begin j) s
