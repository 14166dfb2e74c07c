-- What the laws of jobs speak of.
--     is_idle o           the job ended without beginning its recipe: its targets are up to date, it counts as updated, a prerequisite wasn't made, or nothing makes it
--     is_silent o         the same but for the last, of which a line is said
--     AreUnforced ps      no line is marked `+`
--     node_at s w p       what stands at a path for a job with these changes
--     HasNoLinks s w      it sees no symbolic link
--     is_kept ..          what a target says isn't deleted: the target is phony or no path, or no file stands there behind the links, or one with the stamp from before
--     IsKeptAt q ..       what stands at q isn't touched for this target: it is kept, or stands neither at q nor in the directory q
use Rattle.std.specs.Prelude.{◌≡◌, ◌≢◌, ◌⊎◌, ℕ, Bool, true, false, not, ◌||◌, List, All, Option, Some, None}
use Rattle.std.specs.FinMap.{get}
use Rattle.em_path.specs.Paths.{parent_text}
use Rattle.em_tree.specs.declared.node.Kind.{Kind}
use Rattle.em_tree.specs.declared.node.Kind.TheVariants as kind
use Rattle.em_tree.specs.declared.node.Node.{Node}
use Rattle.em_tree.specs.declared.outcome.Outcome.{Outcome}
use Rattle.em_tree.specs.declared.outcome.Outcome.TheVariants as outcome
use Rattle.em_tree.specs.declared.state.State.{State}
use Rattle.em_tree.specs.Trees.{laid_over, kind_of, stamp_of, link_of}
use Rattle.em_tree.specs.Resolving.{node_behind}
use Rattle.em_view.specs.Actions.{Workspace}
use Rattle.em_task.specs.declared.job.Job.{Job}
use Rattle.em_job.specs.declared.prepare.Placed.{Placed}
use Rattle.em_job.specs.Deciding.{is_phony, path_of, same_stamp}

abbrev pub is_silent : Outcome → Bool
is_silent outcome.Upto = true
is_silent outcome.Counted = true
is_silent outcome.Skipped = true
is_silent _ = false

abbrev pub is_idle : Outcome → Bool
is_idle outcome.NoRule = true
is_idle o = is_silent o

abbrev pub AreUnforced : List Placed → Type 0
AreUnforced ps = All (λ p. p.command.marks.forced ≡ false) ps

abbrev pub node_at : State → Workspace → List ℕ → Option Node
node_at s w p = get (laid_over w.changes s.tree) p

abbrev pub node_seen : State → Workspace → List ℕ → Option Node
node_seen s w p = node_behind (laid_over w.changes s.tree) p

abbrev pub HasNoLinks : State → Workspace → Type 0
HasNoLinks s w = (p : List ℕ) → link_of (node_at s w p) ≡ None

abbrev pub is_file : Kind → Bool
is_file kind.File = true
is_file _ = false

abbrev pub is_kept_at : State → Workspace → Option ℕ → Option (List ℕ) → Bool
is_kept_at s w before None = true
is_kept_at s w before (Some path) = not (is_file (kind_of (node_seen s w path))) || same_stamp (stamp_of (node_seen s w path)) before

abbrev pub is_kept : State → Workspace → Job → List ℕ → Option ℕ → Bool
is_kept s w j target before = is_phony j target || is_kept_at s w before (path_of j.cwd target)

abbrev pub IsElsewhere : List ℕ → Option (List ℕ) → Type 0
IsElsewhere q None = Unit {0}
IsElsewhere q (Some path) = (path ≢ q) × (parent_text path ≢ Some q)

abbrev pub IsKeptAt : List ℕ → State → Workspace → Job → List ℕ → Option ℕ → Type 0
IsKeptAt q s w j target before = (is_kept s w j target before ≡ true) ⊎ IsElsewhere q (path_of j.cwd target)
