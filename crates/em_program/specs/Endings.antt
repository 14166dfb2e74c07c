-- What a run comes to, from the words, the host's files, and its builds: what their jobs made, and
-- the notes of them.
--     ended words builds         all that `emake` calls on the host, and the status: it does nothing else
--     run_from builds st         the builds from this step on, and the end
--     AreRun, AreAll builds st   these builds are serial runs of what there was to build; and there is no other
--     IsRan p result ..          the jobs of a project have run so
--     IsRun, IsWork, IsCount ..  the builds from a step on, those of a site, and where they are only counted
use Rattle.std.specs.Prelude.{◌≡◌, ℕ, Bool, true, false, ◌||◌, ◌==◌, List, [], ◌∷◌, ◌++◌, length, map, Option, Some, None, Result, Ok, Err, if◌then◌else◌, IfOk, OnErr, All}
use Rattle.std.specs.List.{flat_map}
use Rattle.std.specs.FinMap.{empty, len}
use Rattle.em_host.specs.declared.call.Call.{Call}
use Rattle.em_host.specs.Calls.{printed_by}
use Rattle.em_host.specs.Outside.{Files, Outside}
use Rattle.em_tree.specs.declared.outcome.Outcome.{Outcome}
use Rattle.em_tree.specs.declared.state.State.{State}
use Rattle.em_history.specs.Histories.{text_of, united}
use Rattle.em_image.specs.Image.{limits, writing}
use Rattle.em_image.specs.declared.no.ImageNo.{ImageNo}
use Rattle.em_learning.specs.Telling.{report_of}
use Rattle.em_report.specs.Reports.{report_text}
use Rattle.em_run.specs.Serial.{Made, outputs_of, Ran, IsSerial}
use Rattle.em_cmdline.specs.declared.order.HistoryMode.{HistoryMode}
use Rattle.em_cmdline.specs.declared.order.HistoryMode.TheVariants as mode
use Rattle.em_cmdline.specs.declared.order.Order.{Order}
use Rattle.em_nesting.specs.Nested.{MakesAll}
use Rattle.em_engine.specs.declared.note.Note.{Note}
use Rattle.em_workers.specs.Builds.{IsOnce}
use Rattle.em_workers.specs.Notes.{AreNotes}
use Rattle.em_program.specs.declared.build.Finished.{Finished}
use Rattle.em_program.specs.declared.build.JobsDone.{JobsDone}
use Rattle.em_program.specs.declared.project.Project.{Project}
use Rattle.em_program.specs.declared.project.Terms.{Terms}
use Rattle.em_program.specs.declared.rounds.Remaking.{Remaking}
use Rattle.em_program.specs.declared.rounds.BuildStep.{BuildStep}
use Rattle.em_program.specs.declared.site.Site.{Site}
use Rattle.em_program.specs.declared.stop.ProgramEnd.{ProgramEnd}
use Rattle.em_program.specs.declared.stop.ProgramEnd.TheVariants.{End, Failed, NoMemory}
use Rattle.em_program.specs.declared.verdict.BuildStatus.{BuildStatus}
use Rattle.em_program.specs.declared.verdict.BuildStatus.TheVariants.{Faulty}
use Rattle.em_closing.specs.Closing.{closing}
use Rattle.em_program.specs.Statuses.{code_of, status_of}
use Rattle.em_program.specs.Course.{Trace, Course, ◌>>=◌, done, say, say_all, keep, stop, Follows, Meets}
use Rattle.em_program.specs.Messages.{image_line, summary}
use Rattle.em_program.specs.Projects.{site}
use Rattle.em_program.specs.Rounds.{Build, is_early, left_by, first, goes_on, shown_by}
use Rattle.em_program.specs.Serial.{ends}

-- the closing text, the new image and the status; an image that breaks a limit isn't written, and
-- its refusal is the last line
abbrev pub closed : List ℕ → List ℕ → List Outcome → State → Result (List ℕ) ImageNo → Course BuildStatus
closed image text earlier s (Ok bytes) = do
  u ← say text
  v ← keep image bytes
  done (status_of false false earlier s.outcomes)
closed image text earlier s (Err e) = do
  u ← say (text ++ image_line e)
  done (status_of false true earlier s.outcomes)

abbrev pub written : State → Result (List ℕ) ImageNo
written s = writing limits s.tree

-- a file of the host becomes these bytes, where one is named
abbrev pub kept : Option (List ℕ) → List ℕ → Course (Unit {0})
kept None bytes = done tt
kept (Some name) bytes = keep name bytes

module _ (t : Terms) (notes : List Note) where
  -- what was known, and what the builds have shown
  abbrev pub history_text : List ℕ
  history_text = text_of (united t.old (shown_by t notes))

  abbrev pub history_kept : HistoryMode → Course (Unit {0})
  history_kept mode.Create = kept t.order.history history_text
  history_kept mode.Merge = kept t.order.history history_text
  history_kept mode.Read = done tt

  abbrev pub report_kept : List ℕ → BuildStatus → Course (Unit {0})
  report_kept fuel verdict = kept t.order.report (report_text (report_of t.plan.jobs t.waits notes fuel (code_of verdict)))

  -- without an image, as of a generated project, nothing is replaced
  abbrev pub replaced : Option (List ℕ) → List ℕ → List ℕ → State → Course BuildStatus
  replaced None fuel text s = do
    u ← say text
    done (status_of false false t.earlier.outcomes s.outcomes)
  replaced (Some image) fuel text s = do
    verdict ← closed image text t.earlier.outcomes s (written s)
    u ← history_kept t.order.mode
    v ← report_kept fuel verdict
    done verdict

  -- asked: under `-q` nothing is said or replaced
  abbrev pub finish : Bool → List ℕ → Bool → State → Course BuildStatus
  finish asked fuel early s =
      if asked then done (status_of true false t.earlier.outcomes s.outcomes)
      else replaced t.order.image fuel (closing t.order.silent t.plan s.outcomes t.goals early) s

abbrev pub fuel_of : List Made → List ℕ
fuel_of made = map (λ m. m.fuel) made

-- ---- the builds, one behind another

-- a job ended the run, or all have run
abbrev pub is_whole : Project → Build → Bool
is_whole p b = is_early p b || length b.made == length p.specs

-- what the builds come to, as it is counted: how many jobs the last plan has, and how many nodes the
-- last tree; and whether it is the whole of it
pub record Tally : Type 0 where
  pub verdict : BuildStatus
  pub jobs : ℕ
  pub nodes : ℕ
  pub whole : Bool

-- where the run broke off nothing more is called, and nothing is counted. The verdict isn't looked
-- at: the status is then 3 or 7
abbrev pub broken_off : Course Tally
broken_off = done (record { verdict = Faulty; jobs = 0; nodes = 0; whole = false })

-- `-q`, which a round's own order lacks
abbrev pub asked_by : Order → Option Remaking → Bool
asked_by order None = order.question
asked_by order (Some m) = m.order.question

abbrev pub is_asked : BuildStep → Bool
is_asked st = asked_by st.project.terms.order st.remaking

-- the end, behind the last build
abbrev pub tally_of : Terms → State → BuildStatus → Tally
tally_of t s verdict = record { verdict = verdict; jobs = length t.plan.jobs; nodes = len s.tree; whole = true }

abbrev pub last_by : Terms → List Note → Bool → List ℕ → Bool → State → Course Tally
last_by t notes asked fuel early s = do
  verdict ← finish t notes asked fuel early s
  done (tally_of t s verdict)

abbrev pub last_of : BuildStep → Build → Course Tally
last_of st b = last_by st.project.terms b.notes (is_asked st) (fuel_of b.made) (is_early st.project b) (left_by st.project b)

abbrev pub next_or_last : (BuildStep → Course Tally) → BuildStep → Build → Option (Course BuildStep) → Course Tally
next_or_last later st b None = last_of st b
next_or_last later st b (Some next) = next >>= later

abbrev pub after_jobs : (BuildStep → Course Tally) → BuildStep → Build → Course Tally
after_jobs later st b = if is_whole st.project b then next_or_last later st b (goes_on st b) else broken_off

-- what the jobs of each build say, in order, and what follows them
unfoldable pub run_from : List Build → BuildStep → Course Tally
run_from [] st = broken_off
run_from (b ∷ bs) st = do
  u ← say_all (outputs_of b.made)
  after_jobs (run_from bs) st b

-- ---- what is so of the builds

-- each job has run so in the serial run, once, or twice and for a cause that is so on the state that
-- the jobs before it left; one worker has run each job once
pub record HasRun (p : Project) (b : Build) : Type 0 where
  pub ran : Ran MakesAll ends p.start p.specs b.made
  pub noted : AreNotes p.start [] b.made b.notes
  pub alone : p.terms.order.workers ≡ 1 → All IsOnce b.notes

-- a fact of a step, where nothing is refused on the way to it. What is refused doesn't hang on the
-- host's files
abbrev pub Given : Course BuildStep → (BuildStep → Type 0) → Type 0
Given next P = (st : BuildStep) → (next empty).end ≡ Ok st → P st

-- a fact of what follows a build
abbrev pub Behind : Option (Course BuildStep) → (BuildStep → Type 0) → Type 0
Behind None P = Unit {0}
Behind (Some next) P = Given next P

abbrev pub AreRun : List Build → BuildStep → Type 0
AreRun [] st = Unit {0}
AreRun (b ∷ bs) st = HasRun st.project b × Behind (goes_on st b) (AreRun bs)

-- each of them is all of its serial run, and none is missing
abbrev pub AllAt : List Build → Result BuildStep BuildStatus → (BuildStep → Type 0) → Type 0
AllAt bs (Ok st) P = P st
AllAt bs (Err verdict) P = bs ≡ []

abbrev pub AllBehind : List Build → Option (Course BuildStep) → (BuildStep → Type 0) → Type 0
AllBehind bs None P = bs ≡ []
AllBehind bs (Some next) P = AllAt bs (next empty).end P

abbrev pub AreAll : List Build → BuildStep → Type 0
AreAll [] st = ⊥
AreAll (b ∷ bs) st = IsSerial MakesAll ends st.project.start st.project.specs b.made × AllBehind bs (goes_on st b) (AreAll bs)

abbrev pub notes_of : List Build → List Note
notes_of builds = flat_map (λ b. b.notes) builds

-- ---- what the parts of a run answer

abbrev pub verdict_in : Result Finished ProgramEnd → Result BuildStatus ProgramEnd
verdict_in (Ok f) = Ok f.verdict
verdict_in (Err e) = Err e

-- none of a run that broke off, or that was refused
abbrev pub notes_in : Result Finished ProgramEnd → List Note
notes_in (Ok f) = f.notes
notes_in (Err e) = []

abbrev pub tally_in : Result Finished ProgramEnd → Result Tally ProgramEnd
tally_in (Ok f) = Ok (record { verdict = f.verdict; jobs = f.jobs; nodes = f.nodes; whole = true })
tally_in (Err e) = Err e

-- the run came to its end, or to a refusal
abbrev pub IsOver : Result Finished ProgramEnd → Type 0
IsOver (Ok f) = Unit {0}
IsOver (Err (End verdict)) = Unit {0}
IsOver (Err Failed) = ⊥
IsOver (Err NoMemory) = ⊥

abbrev pub unit_in : Result JobsDone ProgramEnd → Result (Unit {0}) ProgramEnd
unit_in (Ok d) = Ok tt
unit_in (Err e) = Err e

-- what the jobs of a project leave, once all have run or one has ended the run
pub record IsDone (p : Project) (b : Build) (d : JobsDone) : Type 0 where
  pub serial : IsSerial MakesAll ends p.start p.specs b.made
  pub terms : d.terms ≡ p.terms
  pub state : d.built.state ≡ left_by p b
  pub fuel : d.built.fuel ≡ fuel_of b.made
  pub notes : d.built.notes ≡ b.notes

-- the jobs that were run have run so in the serial run; unless the run broke off, they are all of
-- it. They are never refused
pub record IsRan (p : Project) (result : Result JobsDone ProgramEnd) (before after : Option Outside) : Type 0 where
  pub build : Build
  pub has : HasRun p build
  pub whole : IfOk result (IsDone p build)
  pub short : (verdict : BuildStatus) → result ≡ Err (End verdict) → ⊥
  pub follows : Follows (say_all (outputs_of build.made)) (unit_in result) before after

pub record IsRun (st : BuildStep) (result : Result Finished ProgramEnd) (before after : Outside) : Type 0 where
  pub builds : List Build
  pub run : AreRun builds st
  pub all : IsOver result → AreAll builds st
  pub notes : IfOk result (λ f. f.notes ≡ st.project.terms.earlier.notes ++ notes_of builds)
  pub meets : Meets (run_from builds st before.files) (tally_in result) before after

-- ---- what is built at a site

abbrev pub working : List Build → Site → Course Tally
working builds s = first s >>= run_from builds

pub record AreSo (s : Site) (builds : List Build) (result : Result Finished ProgramEnd) : Type 0 where
  pub run : Given (first s) (AreRun builds)
  pub all : IsOver result → AllAt builds (first s empty).end (AreAll builds)
  pub notes : IfOk result (λ f. f.notes ≡ s.earlier.notes ++ notes_of builds)

pub record IsWork (s : Site) (result : Result Finished ProgramEnd) (before after : Outside) : Type 0 where
  pub builds : List Build
  pub so : AreSo s builds result
  pub meets : Meets (working builds s before.files) (tally_in result) before after

-- ---- all of it

abbrev pub summed : List Call → Tally → Course BuildStatus
summed calls t = do
  u ← say (summary t.jobs (length (printed_by calls)) t.nodes (code_of t.verdict))
  done t.verdict

-- only the summary is said, with the number of bytes that would be said in a build; or all of them,
-- where they end in a refusal; nothing of a run that broke off
abbrev pub counted_as : List Call → Result Tally BuildStatus → Course BuildStatus
counted_as calls (Ok t) = if t.whole then summed calls t else done t.verdict
counted_as calls (Err verdict) = stop (printed_by calls) verdict

abbrev pub counted : Trace Tally → Course BuildStatus
counted steps = counted_as steps.calls steps.end

-- a generated project is built beside the host, without a file of it
pub record IsCount (s : Site) (result : Result Finished ProgramEnd) (before after : Outside) : Type 0 where
  pub builds : List Build
  pub so : AreSo s builds result
  pub meets : Meets (counted (working builds s empty) before.files) (verdict_in result) before after

abbrev pub answered : Option ℕ → Course Tally → Course BuildStatus
answered None work = do
  t ← work
  done t.verdict
answered (Some n) work = counted (work empty)

unfoldable pub ended_at : List Build → Site → Course BuildStatus
ended_at builds s = answered s.order.generate (working builds s)

abbrev pub ended : List (List ℕ) → List Build → Course BuildStatus
ended words builds = site words >>= ended_at builds
