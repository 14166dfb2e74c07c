-- What a job's steps come to inside a turn. These speak of the code's own steps.
--     IsProgress ..      from one desk and what was said to another ones, what is to be done was done up to this
--     IsStopped ..       a stop is told, and is the job's end
--     IfPaused           of the line with which it pauses
--     heard stage b      how a job stands that has heard how its line's make ended; one that waits for none has ended
use Rattle.std.specs.Prelude.{◌≡◌, ℕ, false, Result, Ok, Err}
use Rattle.em_base.specs.declared.memory.NoMemory.{NoMemory}
use Rattle.em_view.specs.Performs.{DeskState, Told}
use Rattle.em_expand.specs.declared.spoken.Spoken.{Spoken}
use Rattle.em_exec.specs.declared.turn.SubLine.{SubLine}
use Rattle.em_exec.specs.declared.turn.Turn.{Turn}
use Rattle.em_exec.specs.declared.turn.Turn.TheVariants as turn
use Rattle.em_script.specs.Strands.{Back, Status, Spent, Plot, Going, from_output, Turned}
use Rattle.em_task.specs.declared.job.Job.{Job}
use Rattle.em_steps.specs.declared.steps.Progress.{Progress}
use Rattle.em_steps.specs.declared.steps.Progress.TheVariants.{Ended, Paused}
use Rattle.em_steps.specs.declared.steps.Stage.{Stage}
use Rattle.em_steps.specs.declared.steps.Stage.TheVariants as stage
use Rattle.em_job.specs.declared.stop.JobStop.{JobStop}
use Rattle.em_job.specs.Stops.{is_free}
use Rattle.em_job.specs.Effects.{saying}
use Rattle.em_steps.specs.Laps.{said, close, nothing_left, going_on}

abbrev pub turn_in : Result Progress NoMemory → Result Turn NoMemory
turn_in (Ok (Ended o)) = Ok (turn.Ended o)
turn_in (Ok (Paused h line)) = Ok (turn.Sub line)
turn_in (Err e) = Err e

abbrev pub back_in : Job → ℕ → Result Progress NoMemory → Back → Plot
back_in j depth (Ok (Paused h line)) b = from_output saying (going_on j depth h b)
back_in j depth _ b = from_output saying nothing_left

abbrev pub IsProgress : {V : Type 0} → (V → Told) → DeskState V → DeskState V → Spoken → Spoken → Job → ℕ → Result Progress NoMemory → Going Spoken → Type 0
IsProgress tells old new s t j depth r g = Turned tells old new s (said t) (turn_in r) g (back_in j depth r)

pub record IsStopped (j : Job) (stop : JobStop) (s t : Spoken) (p : Progress) : Type 0 where
  pub ended : p ≡ Ended (close j stop s).0
  pub told : said t ≡ (close j stop s).1
  pub plain : is_free stop ≡ false

abbrev pub IfPaused : Result Progress NoMemory → (SubLine → Type 0) → Type 0
IfPaused (Ok (Paused h line)) P = P line
IfPaused _ P = Unit {0}

abbrev pub heard : Stage → Back → Stage
heard (stage.Waiting h) (Status n) = stage.Answered h n
heard (stage.Waiting h) Spent = stage.Spent h
heard _ b = stage.Closed
