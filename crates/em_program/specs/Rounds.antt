-- Remade makefiles: a run consists of builds, one behind another. In a round the makefiles are read,
-- and those of them that rules make are made, as goals of a build. Where that changed one, the next
-- round begins with what it left; else the goals of the words are built.
--     first s            the first build, behind what is said on the way to it
--     goes_on st b       what there is to build behind a build; none behind the last one
--     IsStep st, IsNext past most st      what a step is made of
--     round left s cwd   a round, with which so many may begin
--     final s cwd r      the build of the goals, behind the last round
use Rattle.std.specs.Prelude.{◌≡◌, ◌≤◌, ℕ, zero, suc, ◌^◌, ◌&&◌, nat_lt, not, Bool, true, false, List, [], ◌∷◌, ◌++◌, find, Option, Some, None, IfSome, Result, Ok, Err, codes, if◌then◌else◌}
use Rattle.std.specs.FinMap.{get}
use Rattle.em_tree.specs.declared.node.Kind.{Kind}
use Rattle.em_tree.specs.declared.node.Kind.TheVariants as kind
use Rattle.em_tree.specs.declared.state.State.{State}
use Rattle.em_tree.specs.Trees.{Table, base_of, kind_of}
use Rattle.em_tree.specs.Resolving.{node_behind}
use Rattle.em_history.specs.Histories.{Pair, united}
use Rattle.em_image.specs.declared.no.ImageNo.TheVariants.{Limit}
use Rattle.em_image.specs.declared.no.Which.TheVariants.{Stamp}
use Rattle.em_cmdline.specs.declared.order.Order.{Order}
use Rattle.em_cmdline.specs.Words.{HasRanges}
use Rattle.em_path.specs.Paths.{root_text}
use Rattle.em_path.specs.Reading.{read_fault}
use Rattle.em_reading.specs.declared.no.MakefileFault.TheVariants as fault
use Rattle.em_reading.specs.declared.noted.Missing.{Missing}
use Rattle.em_rules.specs.declared.book.Book.{Book}
use Rattle.em_reader.specs.Reading.{path_of}
use Rattle.em_reader.specs.declared.makefiles.Round.{Round}
use Rattle.em_remake.specs.Remaking.{goals_of, changed}
use Rattle.em_learning.specs.Learnt.{learnt}
use Rattle.em_engine.specs.declared.note.Note.{Note}
use Rattle.em_run.specs.Serial as run
use Rattle.em_run.specs.Serial.{Made, state_after}
use Rattle.em_nesting.specs.Nested.{MakesAll}
use Rattle.em_program.specs.declared.project.Project.{Project}
use Rattle.em_program.specs.declared.project.Terms.{Terms}
use Rattle.em_program.specs.declared.rounds.Remaking.{Remaking}
use Rattle.em_program.specs.declared.rounds.BuildStep.{BuildStep}
use Rattle.em_program.specs.declared.site.Earlier.{Earlier}
use Rattle.em_program.specs.declared.site.Site.{Site}
use Rattle.em_program.specs.declared.verdict.BuildStatus.TheVariants.{Faulty}
use Rattle.em_program.specs.Course.{Course, ◌>>=◌, done, stop}
use Rattle.em_closing.specs.Refusals.{fault_line}
use Rattle.em_program.specs.Messages.{image_line, still_changing}
use Rattle.em_program.specs.Projects.{start_of, entered, round_of, project_at, IsReady}
use Rattle.em_program.specs.Serial.{ends}

-- ---- what a round begins with, and what follows the last one

-- above that no numbers are left for a build's changes
abbrev pub based : Table → Course (Unit {0})
based t = if nat_lt (2 ^ 62) (base_of t) then stop (image_line (Limit Stamp 0)) Faulty else done tt

abbrev pub is_file : Kind → Bool
is_file kind.File = true
is_file _ = false

abbrev pub is_file_at : Table → Option (List ℕ) → Bool
is_file_at t None = false
is_file_at t (Some path) = is_file (kind_of (node_behind t path))

-- a file that an `include` needs and that still isn't there: its name is no path, or no file's
abbrev pub is_lacking : Table → List ℕ → Missing → Bool
is_lacking t cwd m = m.needed && not (is_file_at t (path_of cwd m.name))

abbrev pub refused_by : Option Missing → Course (Unit {0})
refused_by None = done tt
refused_by (Some m) = stop (fault_line m.place (fault.Include m.name)) Faulty

-- the first one is refused, at its place
abbrev pub all_there : Table → List ℕ → List Missing → Course (Unit {0})
all_there t cwd missing = refused_by (find (is_lacking t cwd) missing)

-- makefiles are made also under `-n` and `-q`, and under `-B` only where it is due
abbrev pub round_order : Order → List (List ℕ) → Order
round_order o goals = record o { goals = goals; dry = false; question = false; always = false }

-- ---- the builds

-- the build of the goals
abbrev pub final : Site → List ℕ → Round → Course BuildStep
final s cwd r = do
  u ← all_there s.start.tree cwd r.missing
  v ← based s.start.tree
  p ← project_at s r.book cwd
  done (record { project = p; remaking = None })

-- the build of makefiles
abbrev pub remade : ℕ → Site → List ℕ → Round → List (List ℕ) → Course BuildStep
remade left s cwd r goals = do
  p ← project_at (record s { order = round_order s.order goals }) r.book cwd
  done (record { project = p; remaking = Some (record { order = s.order; cwd = cwd; round = r; goals = goals; before = s.start.tree; left = left }) })

abbrev pub by_goals : ℕ → Site → List ℕ → Round → List (List ℕ) → Course BuildStep
by_goals left s cwd r [] = final s cwd r
by_goals left s cwd r (g ∷ gs) = remade left s cwd r (g ∷ gs)

-- a reading, and what is built behind it
unfoldable pub round : ℕ → Site → List ℕ → Course BuildStep
round zero s cwd = stop still_changing Faulty
round (suc left) s cwd = do
  u ← based s.start.tree
  r ← round_of s.order s.start
  by_goals left s cwd r (goals_of r s.start.tree cwd)

-- there are at most eight rounds
abbrev pub first : Site → Course BuildStep
first s = do
  cwd ← entered s.start.tree s.order.dir
  round 8 s cwd

-- ---- what follows a build

-- the jobs that a build has run, and the notes of them
pub record Build : Type 0 where
  pub made : List Made
  pub notes : List Note

-- a job ended the run
abbrev pub is_early : Project → Build → Bool
is_early p b = run.is_early MakesAll ends p.specs b.made

abbrev pub left_by : Project → Build → State
left_by p b = state_after p.start b.made

-- what the builds have shown, behind one with these notes
abbrev pub shown_by : Terms → List Note → List Pair
shown_by t notes = united t.earlier.shown (learnt t.plan.jobs notes)

-- where the next build takes place: on the tree that the last one left. What that has shown is kept
-- for the history's file; the next one's jobs wait by what the file told, so that they wait alike in
-- each run
abbrev pub moved : Order → Terms → State → List Note → Site
moved order t s notes = record {
  order = order;
  start = start_of s.tree;
  old = t.old;
  earlier = record {
    notes = t.earlier.notes ++ notes;
    outcomes = t.earlier.outcomes ++ s.outcomes;
    shown = shown_by t notes;
  };
}

-- a makefile's stamp is another one: the next round; else the build of the goals
abbrev pub following : Remaking → Site → Course BuildStep
following m s = if changed m.before s.start.tree m.goals m.cwd then round m.left s m.cwd else final s m.cwd m.round

abbrev pub goes_by : Option Remaking → Project → Build → Option (Course BuildStep)
goes_by None p b = None
goes_by (Some m) p b = if is_early p b then None else Some (following m (moved m.order p.terms (left_by p b) b.notes))

-- nothing behind the goals, nor behind a job that ended the run
abbrev pub goes_on : BuildStep → Build → Option (Course BuildStep)
goes_on st b = goes_by st.remaking st.project b

-- ---- what a step is made of

-- how many rounds may begin behind it, at most, and one for its own
abbrev pub rank_of : Option Remaking → ℕ
rank_of None = 0
rank_of (Some m) = suc m.left

abbrev pub IsOrder : Order → Type 0
IsOrder order = HasRanges order × (read_fault root_text order.dir ≡ None)

pub record IsStep (st : BuildStep) : Type 0 where
  pub ready : IsReady st.project
  -- the words' order, of which a directory is a path
  pub order : IfSome st.remaking (λ m. IsOrder m.order)

-- behind builds that have done this, with so many rounds that may begin
pub record IsNext (past : Earlier) (most : ℕ) (st : BuildStep) : Type 0 where
  pub step : IsStep st
  pub earlier : st.project.terms.earlier ≡ past
  pub left : rank_of st.remaking ≤ most
