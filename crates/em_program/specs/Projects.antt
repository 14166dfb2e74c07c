-- What there is to build: from the words and the image to the jobs, with what is said on the way.
-- Each part gives what the next one needs, or ends the run with its refusal: nothing is replaced
-- then.
--     site words         the order, the tree from which the build starts, and the history
--     round_of order start      what the makefiles say, and which of them are there
--     project_at s book cwd     the jobs that the goals need
--     IsSite s, IsReady p       what a project is made of, and what a build asks of it
use Rattle.std.specs.Prelude.{◌≡◌, ◌<◌, ◌≤◌, ◌^◌, ℕ, Bool, List, [], Option, Some, None, Result, Ok, Err, All, length, slice_index_or}
use Rattle.std.specs.FinMap.{get}
use Rattle.em_host.specs.Outside.{Files}
use Rattle.em_path.specs.Paths.{root_text}
use Rattle.em_path.specs.Reading.{read_fault, resolved_text}
use Rattle.em_path.specs.declared.path.PathNo.{PathNo}
use Rattle.em_tree.specs.declared.node.Kind.{Kind}
use Rattle.em_tree.specs.declared.node.Kind.TheVariants as kind
use Rattle.em_tree.specs.declared.state.State.{State}
use Rattle.em_tree.specs.Trees.{Table, base_of, kind_of}
use Rattle.em_tree.specs.Resolving.{node_behind}
use Rattle.em_view.specs.Actions.{snapshot}
use Rattle.em_image.specs.Image.{limits}
use Rattle.em_image.specs.Reading as image
use Rattle.em_image.specs.declared.no.ImageNo.{ImageNo}
use Rattle.em_gen.specs.Generated as generated
use Rattle.em_history.specs.Histories as history
use Rattle.em_history.specs.Histories.{Pair}
use Rattle.em_cmdline.specs.declared.order.HistoryMode.{HistoryMode}
use Rattle.em_cmdline.specs.declared.order.HistoryMode.TheVariants as mode
use Rattle.em_cmdline.specs.declared.order.Order.{Order}
use Rattle.em_cmdline.specs.Words.{HasRanges}
use Rattle.em_rules.specs.declared.book.Book.{Book}
use Rattle.em_reading.specs.declared.no.ReadNo.{ReadNo}
use Rattle.em_reader.specs.Makefiles as makefiles
use Rattle.em_reader.specs.declared.makefiles.Round.{Round}
use Rattle.em_plan.specs.declared.no.PlanNo.{PlanNo}
use Rattle.em_plan.specs.declared.planned.Plan.{Plan}
use Rattle.em_plan.specs.Plans.{plan_of}
use Rattle.em_learning.specs.Waits.{waits_with}
use Rattle.em_closing.specs.Closing.{goals_of}
use Rattle.em_task.specs.declared.job.Job.{Job}
use Rattle.em_job.specs.Making.{flags_of, jobs_of}
use Rattle.em_engine.specs.Fronts.{AreNumbered}
use Rattle.em_program.specs.declared.project.Project.{Project}
use Rattle.em_program.specs.declared.project.Terms.{Terms}
use Rattle.em_program.specs.declared.site.Earlier.{Earlier}
use Rattle.em_program.specs.declared.site.Site.{Site}
use Rattle.em_program.specs.declared.verdict.BuildStatus.{BuildStatus}
use Rattle.em_program.specs.declared.verdict.BuildStatus.TheVariants.{Faulty}
use Rattle.em_program.specs.Course.{Course, ◌>>=◌, done, say, take, stop}
use Rattle.em_closing.specs.Refusals.{dir_line, read_line, plan_line}
use Rattle.em_program.specs.Messages.{bad_words, no_image, image_line}
use Rattle.em_program.specs.Words.{ordered}
use Rattle.em_program.specs.Explaining.{explained}

-- ---- the image

abbrev pub as_found : Option (List ℕ) → Course (List ℕ)
as_found None = stop no_image Faulty
as_found (Some bytes) = done bytes

-- its bytes
abbrev pub image_in : List ℕ → Course (List ℕ)
image_in name = take name >>= as_found

abbrev pub as_read : Result Table ImageNo → Course Table
as_read (Ok tree) = done tree
as_read (Err e) = stop (image_line e) Faulty

-- the tree that they tell
abbrev pub tree_of : List ℕ → Course Table
tree_of bytes = as_read (image.reading limits bytes)

-- the tree from which the build starts: a generated project's, or the image's
abbrev pub tree_in : Option ℕ → Option (List ℕ) → Course Table
tree_in (Some n) image = done (generated.project n)
tree_in None (Some name) = image_in name >>= tree_of
tree_in None None = stop bad_words Faulty

-- ---- the history

-- no file is the empty history
abbrev pub pairs_of : Option (List ℕ) → List Pair
pairs_of None = []
pairs_of (Some bytes) = history.reading bytes

abbrev pub recalled_from : Option (List ℕ) → Course (List Pair)
recalled_from None = done []
recalled_from (Some name) = do
  found ← take name
  done (pairs_of found)

-- mode `create` doesn't look at the file
abbrev pub recalled : HistoryMode → Option (List ℕ) → Course (List Pair)
recalled mode.Create name = done []
recalled mode.Merge name = recalled_from name
recalled mode.Read name = recalled_from name

-- ---- the working directory: `-C` names a directory of the tree, or a link to one, and keeps the
-- ---- name that was given

abbrev pub no_dir : List ℕ → Course (List ℕ)
no_dir name = stop (dir_line name) Faulty

abbrev pub as_dir : List ℕ → List ℕ → Kind → Course (List ℕ)
as_dir name path kind.Dir = done path
as_dir name path _ = no_dir name

abbrev pub as_path : Table → List ℕ → Option PathNo → Course (List ℕ)
as_path t name None = as_dir name (resolved_text root_text name) (kind_of (node_behind t (resolved_text root_text name)))
as_path t name (Some e) = no_dir name

abbrev pub entered : Table → List ℕ → Course (List ℕ)
entered t name = as_path t name (read_fault root_text name)

-- ---- the makefiles

-- no job has ended
abbrev pub start_of : Table → State
start_of t = record { tree = t; outcomes = [] }

-- what was said while they were read, also before a fault
abbrev pub as_round : Result (Round × List ℕ) (ReadNo × List ℕ) → Course Round
as_round (Ok p) = do
  u ← say p.1
  done p.0
as_round (Err p) = do
  u ← say p.1
  stop (read_line p.0) Faulty

-- a file that an `include` names and that isn't there is noted
abbrev pub round_of : Order → State → Course Round
round_of order start = as_round (makefiles.round order (resolved_text root_text order.dir) [] [] (snapshot start) makefiles.fresh).0

-- ---- the plan

abbrev pub as_plan : Bool → Result Plan PlanNo → Course Plan
as_plan found (Ok plan) = do
  u ← say plan.notes
  done plan
as_plan found (Err e) = stop (plan_line found e) Faulty

abbrev pub planned : Book → Order → Table → List ℕ → Course Plan
planned book order t cwd = as_plan book.found (plan_of book order.goals t cwd)

-- ---- all of it

-- before the first build
abbrev pub none_earlier : Earlier
none_earlier = record { notes = []; outcomes = []; shown = [] }

-- where the build takes place; a page and an explanation end the run before
abbrev pub site : List (List ℕ) → Course Site
site words = do
  order ← ordered words
  u ← explained order
  tree ← tree_in order.generate order.image
  old ← recalled order.mode order.history
  done (record { order = order; start = start_of tree; old = old; earlier = none_earlier })

abbrev pub terms_of : Site → Book → Plan → Terms
terms_of s book plan = record { order = s.order; old = s.old; earlier = s.earlier; plan = plan; waits = waits_with s.old plan.jobs; goals = goals_of book s.order.goals }

abbrev pub assembled : Site → Book → Plan → Project
assembled s book plan = record {
  terms = terms_of s book plan;
  start = s.start;
  specs = jobs_of book s.order (base_of s.start.tree) plan.jobs;
}

-- the history tells only what jobs wait for
abbrev pub project_at : Site → Book → List ℕ → Course Project
project_at s book cwd = do
  plan ← planned book s.order s.start.tree cwd
  done (assembled s book plan)

-- ---- what a project is made of, and what a build asks of it

pub record IsSite (s : Site) : Type 0 where
  pub bare : s.start.outcomes ≡ []
  pub ranges : HasRanges s.order

-- numbers are left for the changes of a build
abbrev pub HasRoom : Table → Type 0
HasRoom t = base_of t ≤ 2 ^ 62

pub record IsReady (p : Project) : Type 0 where
  pub bare : p.start.outcomes ≡ []
  pub few : length p.specs ≤ 65536
  pub numbered : AreNumbered (λ (j : Job). j.job) p.specs
  pub count : length p.terms.waits ≡ length p.specs
  -- each job waits for jobs below it
  pub lower : (k : ℕ) → All (λ i. i < k) (slice_index_or p.terms.waits k [])
  pub flags : All (λ (j : Job). j.flags ≡ flags_of p.terms.order) p.specs
  pub ranges : HasRanges p.terms.order
