-- What a build comes to.
--     IsBuilt .. built         the state, the notes and the fuel are those of the serial run, which is made
--     Builds .. result ..      some effects of the jobs are the serial run's, on Ok all of it, and their outputs were printed
use Rattle.std.specs.Prelude.{◌≡◌, ℕ, List, [], Bool, map, Option, Result, IfOk, All}
use Rattle.em_host.specs.Outside.{Outside, Tells}
use Rattle.em_tree.specs.declared.outcome.Outcome.{Outcome}
use Rattle.em_tree.specs.declared.state.State.{State}
use Rattle.em_view.specs.declared.effect.Effect.{Effect}
use Rattle.em_run.specs.Serial.{Made, state_after, outputs_of, Ran, IsSerial}
use Rattle.em_engine.specs.declared.note.Note.{Note}
use Rattle.em_workers.specs.declared.no.BuildNo.{BuildNo}
use Rattle.em_workers.specs.declared.builder.Built.{Built}
use Rattle.em_workers.specs.Notes.{AreNotes}
use Rattle.em_workers.specs.Printing.{Said}

-- the job was run once
abbrev pub IsOnce : Note → Type 0
IsOnce note = note.runs ≡ 1

module _ {S : Type 0} (makes : S → State → Effect → ℕ → Type 0) (ends : S → Outcome → Bool) where
  pub record IsBuilt (start : State) (specs : List S) (workers : ℕ) (made : List Made) (built : Built) : Type 0 where
    pub serial : IsSerial makes ends start specs made
    pub state : built.state ≡ state_after start made
    pub fuel : built.fuel ≡ map (λ m. m.fuel) made
    pub notes : AreNotes start [] made built.notes
    -- one worker runs each job once
    pub alone : workers ≡ 1 → All IsOnce built.notes

  pub record Builds (start : State) (specs : List S) (workers : ℕ) (result : Result Built BuildNo) (before after : Option Outside) : Type 0 where
    pub made : List Made
    pub ran : Ran makes ends start specs made
    pub built : IfOk result (IsBuilt start specs workers made)
    pub printed : Tells (Said (outputs_of made) result) before after
