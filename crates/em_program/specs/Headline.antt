-- What `emake` promises over a host that tells its files, what was printed, and its calls.
--     Headline words status notes before after      there are builds, whose jobs have run as in their serial runs, and notes of these, such
--                                                   that the run made the ending's calls for them; at the statuses 3 and 7 a front of the jobs,
--                                                   and a front of the calls
--     Exits words status before after               the same of who hands on the status alone
use Rattle.std.specs.Prelude.{◌≡◌, ◌≢◌, ℕ, true, List, [], ◌++◌, take, Result, Ok, Err, IfOk, ◌⊎◌}
use Rattle.em_host.specs.declared.call.Call.{Call}
use Rattle.em_host.specs.Outside.{Outside, Files}
use Rattle.em_host.specs.Calls.{printed_by, files_after, Makes, FailsIn}
use Rattle.em_engine.specs.declared.note.Note.{Note}
use Rattle.em_workers.specs.Printing.{RunsOut}
use Rattle.em_program.specs.declared.build.Finished.{Finished}
use Rattle.em_program.specs.declared.rounds.BuildStep.{BuildStep}
use Rattle.em_program.specs.declared.verdict.BuildStatus.{BuildStatus}
use Rattle.em_program.specs.declared.stop.ProgramEnd.{ProgramEnd}
use Rattle.em_program.specs.declared.stop.ProgramEnd.TheVariants.{End, Failed, NoMemory}
use Rattle.em_program.specs.Statuses.{code_of}
use Rattle.em_program.specs.Course.{Trace, ◌>>=◌, Meets}
use Rattle.em_program.specs.Endings.{ended, verdict_in, notes_of, AllAt, AreAll, AreRun, IsOver}
use Rattle.em_program.specs.Projects.{site}
use Rattle.em_program.specs.Rounds.{Build, first}

abbrev pub verdict_of : Result BuildStatus BuildStatus → BuildStatus
verdict_of (Ok verdict) = verdict
verdict_of (Err verdict) = verdict

-- the status of a run that answered so
abbrev pub exit_status : Result BuildStatus ProgramEnd → ℕ
exit_status (Ok verdict) = code_of verdict
exit_status (Err (End verdict)) = code_of verdict
exit_status (Err Failed) = 3
exit_status (Err NoMemory) = 7

-- a front of the ending
pub record IsCut (calls : List Call) (before after : Outside) : Type 0 where
  pub printed : (n : ℕ) × (after.printed ≡ before.printed ++ take n (printed_by calls))
  pub files : (n : ℕ) × (after.files ≡ files_after (take n calls) before.files)

-- the ending's calls are made, in order, and no other
pub record Comes (ending : Trace BuildStatus) (code : ℕ) (before after : Outside) : Type 0 where
  -- at a status other than 3 and 7 all of them, and each answered Ok
  pub status : code ≢ 3 → code ≢ 7 → code ≡ code_of (verdict_of ending.end)
  pub done : code ≢ 3 → code ≢ 7 → Makes ending.calls before after
  -- at 3 one failed, and nothing was called behind it
  pub failed : code ≡ 3 → FailsIn true ending.calls before after
  -- at 7 a front of them was made, and perhaps one more call, which answered an error or was lost
  pub short : code ≡ 7 → RunsOut ending.calls before after
  pub cut : (code ≡ 3) ⊎ (code ≡ 7) → IsCut ending.calls before after

-- the first build of the words, or why there is none
abbrev pub first_in : List (List ℕ) → Files → Result BuildStep BuildStatus
first_in words files = ((site words >>= first) files).end

-- a fact of it, where nothing is refused before it
abbrev pub Built : List (List ℕ) → Files → (BuildStep → Type 0) → Type 0
Built words files P = (st : BuildStep) → first_in words files ≡ Ok st → P st

-- the notes of all builds, unless the run was refused
abbrev pub told_of : List Build → Result BuildStatus BuildStatus → List Note
told_of builds (Ok verdict) = notes_of builds
told_of builds (Err verdict) = []

-- the same of what a run answered
pub record Reaches (words : List (List ℕ)) (result : Result Finished ProgramEnd) (before after : Outside) : Type 0 where
  pub builds : List Build
  pub run : Built words before.files (AreRun builds)
  pub all : IsOver result → AllAt builds (first_in words before.files) (AreAll builds)
  pub notes : IfOk result (λ f. f.notes ≡ notes_of builds)
  pub meets : Meets (ended words builds before.files) (verdict_in result) before after

pub record Headline (words : List (List ℕ)) (code : ℕ) (notes : List Note) (before after : Outside) : Type 0 where
  -- of each build, of each of its jobs the effect on the state that the jobs before it left; and
  -- notes of these, in order, which history and report tell
  pub builds : List Build
  pub run : Built words before.files (AreRun builds)
  pub all : code ≢ 3 → code ≢ 7 → AllAt builds (first_in words before.files) (AreAll builds)
  pub notes_are : code ≢ 3 → code ≢ 7 → notes ≡ told_of builds (ended words builds before.files).end
  pub none : (code ≡ 3) ⊎ (code ≡ 7) → notes ≡ []
  pub comes : Comes (ended words builds before.files) code before after

abbrev pub Exits : List (List ℕ) → ℕ → Outside → Outside → Type 0
Exits words code before after = (notes : List Note) × Headline words code notes before after
