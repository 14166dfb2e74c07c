-- How the lines of a recipe run, each in a shell of its own.
--     AreRead ps rs             each line with what it is by the shell's grammar
--     environment ..            the variables with which its shell starts
--     run_line ..               a line: it is echoed, and it runs
--     delete ..                 what becomes of the targets where a line failed, under `.DELETE_ON_ERROR`
--     carry_out j course        all lines in order
use Rattle.std.specs.Prelude.{◌≡◌, ℕ, ◌==◌, Bool, true, false, not, ◌&&◌, ◌||◌, List, [], ◌∷◌, ◌++◌, Option, Some, None, is_some, Result, Ok, Err, if◌then◌else◌}
use Rattle.em_base.specs.declared.place.Place.{Place}
use Rattle.em_tree.specs.declared.node.Kind.{Kind}
use Rattle.em_tree.specs.declared.node.Kind.TheVariants as kind
use Rattle.em_tree.specs.declared.outcome.Outcome.{Outcome}
use Rattle.em_tree.specs.declared.outcome.Outcome.TheVariants as outcome
use Rattle.em_view.specs.declared.no.DeskNo.{DeskNo}
use Rattle.em_view.specs.declared.no.DeskNo.TheVariants as desk
use Rattle.em_view.specs.Actions.{attempt}
use Rattle.em_view.specs.Rows.{kind_at, stamp_at, remove}
use Rattle.em_view.specs.declared.done.ExecNo.{ExecNo}
use Rattle.em_view.specs.Steps.{Steps, done, refuse, own, below, within}
use Rattle.em_view.specs.Do.{◌>>=◌}
use Rattle.em_vars.specs.declared.var.Var.{Var}
use Rattle.em_vars.specs.declared.var.Flavour.{Flavour}
use Rattle.em_vars.specs.declared.var.Flavour.TheVariants as flavour
use Rattle.em_expand.specs.Layered.{own_text}
use Rattle.em_vars.specs.Entries.{Entries, value_of, keeps, with_value}
use Rattle.em_expand.specs.declared.spoken.Spoken.{Spoken}
use Rattle.em_exec.specs.Exec.{Session}
use Rattle.em_script.specs.declared.line.ShellLine.{ShellLine}
use Rattle.em_script.specs.Lines as script
use Rattle.em_recipe.specs.Messages as messages
use Rattle.em_word.specs.declared.shell.Shell.{Shell}
use Rattle.em_task.specs.Handed.{is_of_order, is_handed}
use Rattle.em_task.specs.declared.job.Job.{Job}
use Rattle.em_job.specs.declared.prepare.Placed.{Placed}
use Rattle.em_job.specs.declared.prepare.RecipeStart.{RecipeStart}
use Rattle.em_job.specs.declared.prepare.Prepared.{Prepared}
use Rattle.em_job.specs.declared.prepare.Prepared.TheVariants.{Ended, Lines}
use Rattle.em_job.specs.declared.ready.ParsedLine.{ParsedLine}
use Rattle.em_job.specs.declared.ready.Course.{Course}
use Rattle.em_job.specs.declared.ready.Course.TheVariants as course
use Rattle.em_job.specs.declared.carry.LineEnd.{LineEnd}
use Rattle.em_job.specs.declared.carry.LineEnd.TheVariants as line_end
use Rattle.em_job.specs.declared.carry.LineEnd.TheVariants.{Next}
use Rattle.em_job.specs.declared.stop.JobStop.{JobStop}
use Rattle.em_job.specs.declared.stop.JobStop.TheVariants.{Spent, NoMemory}
use Rattle.em_job.specs.Stops.{Acts, of_desk, of_line}
use Rattle.em_job.specs.Deciding.{is_phony, path_of, same_stamp}
use Rattle.em_job.specs.Preparing.{Autos, say, expand_at}

-- each line with what it is by the grammar
abbrev pub AreRead : List Placed → List ParsedLine → Type 0
AreRead [] [] = Unit {0}
AreRead (p ∷ ps) (r ∷ rs) = (r.placed ≡ p) × (script.IsRead p.command.text r.line × AreRead ps rs)
AreRead ps rs = ⊥

-- the lines that are to run
abbrev pub lines_in : Result Prepared JobStop → List Placed
lines_in (Ok (Lines x ps)) = ps
lines_in _ = []

-- the same with each line read
abbrev pub course_of : List ParsedLine → Prepared → Course
course_of ready (Ended o) = course.Ended o
course_of ready (Lines x ps) = course.Run x ready

abbrev pub courses : List ParsedLine → Result Prepared JobStop → Result Course JobStop
courses ready (Ok p) = Ok (course_of ready p)
courses ready (Err e) = Err e

pub record IsReadAs (prepared : Result Prepared JobStop) (course : Result Course JobStop) : Type 0 where
  pub ready : List ParsedLine
  pub read : AreRead (lines_in prepared) ready
  pub is : course ≡ courses ready prepared

-- ---- the shell's variables: the command line's, and those that are exported

abbrev pub is_recursive : Flavour → Bool
is_recursive flavour.Recursive = true
is_recursive flavour.Simple = false

abbrev pub put : Entries → List ℕ → Var → Entries
put env name v = if keeps (value_of env name) v then env else with_value env name v

-- a recursive one is expanded, but for those of the command line
abbrev pub is_expanded : Var → Bool
is_expanded v = is_recursive v.flavour && not (is_of_order v.origin)

abbrev pub handed_text : Job → Autos → Place → Var → Acts (List ℕ)
handed_text j autos p v = if is_expanded v then expand_at j autos p v.text else done v.text

abbrev pub simple : Var → List ℕ → Var
simple v text = record v { flavour = flavour.Simple; text = text }

unfoldable pub hand_over : Job → Autos → Place → Entries → List ℕ → Var → Acts Entries
hand_over j autos p env name v = do
  t ← handed_text j autos p v
  done (put env name (simple v t))

-- whether a shell gets a variable of makefiles: an automatic one of its name hides it, and isn't
-- handed over itself
abbrev pub is_given : Autos → List ℕ → Var → Bool
is_given autos name v = is_handed v && not (is_some (own_text autos name))

abbrev pub hand : Job → Autos → Place → Entries → List ℕ → Var → Acts Entries
hand j autos p env name v = if is_given autos name v then hand_over j autos p env name v else done env

abbrev pub hand_entry : Job → Autos → Place → Entries → Option (List ℕ × Var) → Acts Entries
hand_entry j autos p env None = done env
hand_entry j autos p env (Some e) = hand j autos p env e.0 e.1

abbrev pub environment_from : Job → Autos → Place → Entries → Entries → Acts Entries
environment_from j autos p [] env = done env
environment_from j autos p (e ∷ es) env = do
  next ← hand j autos p env e.0 e.1
  environment_from j autos p es next

unfoldable pub environment : Job → Autos → Place → Acts Entries
environment j autos p = environment_from j autos p j.vars []

-- it is made once, before the first line that runs
abbrev pub environment_once : Job → Autos → Place → Option Entries → Acts Entries
environment_once j autos p (Some env) = done env
environment_once j autos p None = environment j autos p

-- ---- a line

abbrev pub is_shown : Job → Placed → Bool
is_shown j l = j.flags.dry || not (j.quiet || l.command.marks.silent)

abbrev pub does_run : Job → Placed → Bool
does_run j l = not j.flags.dry || l.command.marks.forced

abbrev pub echo : Job → Placed → List ℕ
echo j l = if is_shown j l then l.command.text ++ 10 ∷ [] else []

abbrev pub session_of : Shell → Spoken → Session
session_of shell s = record { shell = shell; output = s.said }

abbrev pub said_in : Spoken → Session → Spoken
said_in s session = record s { said = session.output }

abbrev pub shell_of : Job → Entries → Shell
shell_of j env = record { vars = env; cwd = j.cwd; status = 0 }

-- steps in a shell, which ends with them
unfoldable pub run_in : Place → Steps Session ExecNo ℕ → Shell → Acts ℕ
run_in p m shell = within (session_of shell) said_in (of_line p) m

-- its status
unfoldable pub in_shell : Job → Entries → Place → ShellLine → Acts ℕ
in_shell j env p line = run_in p (script.run_line line) (shell_of j env)

unfoldable pub run : Job → Autos → Option Entries → Place → ShellLine → Acts (Option Entries × ℕ)
run j autos env p line = do
  e ← environment_once j autos p env
  status ← in_shell j e p line
  done (Some e, status)

-- one that is only shown has status 0
abbrev pub if_runs : Job → Autos → Option Entries → Placed → ShellLine → Bool → Acts (Option Entries × ℕ)
if_runs j autos env l line true = run j autos env l.place line
if_runs j autos env l line false = done (env, 0)

unfoldable pub run_line : Job → Autos → Option Entries → Placed → ShellLine → Acts (Option Entries × ℕ)
run_line j autos env l line = do
  u ← own (say (echo j l))
  if_runs j autos env l line (does_run j l)

-- ---- a line that failed

abbrev pub after_removal : List ℕ → Place → Result (Unit {0}) DeskNo → Acts (Unit {0})
after_removal target p (Ok u) = own (say (messages.deleted target))
after_removal target p (Err (desk.File f)) = done tt
after_removal target p (Err desk.Spent) = refuse (Spent p)
after_removal target p (Err desk.NoMemory) = refuse NoMemory

-- a removal that is refused says nothing
unfoldable pub remove_target : List ℕ → Place → List ℕ → Acts (Unit {0})
remove_target target p path = do
  r ← below (of_desk p) (attempt (remove path))
  after_removal target p r

abbrev pub if_changed : List ℕ → Place → List ℕ → Bool → Acts (Unit {0})
if_changed target p path true = done tt
if_changed target p path false = remove_target target p path

-- a file that is as it was before the recipe stays
unfoldable pub remove_changed : List ℕ → Option ℕ → Place → List ℕ → Acts (Unit {0})
remove_changed target before p path = do
  now ← below (of_desk p) (stamp_at path)
  if_changed target p path (same_stamp now before)

abbrev pub if_file : List ℕ → Option ℕ → Place → List ℕ → Kind → Acts (Unit {0})
if_file target before p path kind.File = remove_changed target before p path
if_file target before p path _ = done tt

unfoldable pub delete_at : List ℕ → Option ℕ → Place → List ℕ → Acts (Unit {0})
delete_at target before p path = do
  k ← below (of_desk p) (kind_at path)
  if_file target before p path k

abbrev pub delete_by : List ℕ → Option ℕ → Place → Option (List ℕ) → Acts (Unit {0})
delete_by target before p None = done tt
delete_by target before p (Some path) = delete_at target before p path

-- one target, whose stamp was this one
unfoldable pub delete_one : Job → Place → List ℕ → Option ℕ → Acts (Unit {0})
delete_one j p target before = if is_phony j target then done tt else delete_by target before p (path_of j.cwd target)

-- these targets in order, each with its stamp
abbrev pub delete_each : Job → Place → List (List ℕ) → List (Option ℕ) → Acts (Unit {0})
delete_each j p (t ∷ ts) (b ∷ bs) = do
  u ← delete_one j p t b
  delete_each j p ts bs
delete_each j p ts bs = done tt

unfoldable pub delete : Job → List (Option ℕ) → Place → Acts (Unit {0})
delete j befores p = if j.delete_on_error then delete_each j p j.plan.targets befores else done tt

unfoldable pub fail : Job → List (Option ℕ) → Place → ℕ → Acts Outcome
fail j befores p status = do
  u ← own (say (messages.failed p j.plan.target status))
  v ← delete j befores p
  done (outcome.Failed status)

-- ---- all lines

abbrev pub is_lenient : Job → Placed → Bool
is_lenient j l = j.lenient || l.command.marks.lenient

-- what follows a line with this status
abbrev pub after_line : Job → List (Option ℕ) → Placed → Option Entries → ℕ → Acts LineEnd
after_line j befores l next status = if status == 0 then done (Next next) else if is_lenient j l then ignore else stop
  where
    ignore : Acts LineEnd
    ignore = do
      u ← own (say (messages.ignored l.place j.plan.target status))
      done (Next next)

    stop : Acts LineEnd
    stop = do
      o ← fail j befores l.place status
      done (line_end.Ended o)

unfoldable pub turn_of : Job → RecipeStart → Option Entries → ParsedLine → Acts LineEnd
turn_of j x env r = do
  ran ← run_line j x.autos env r.placed r.line
  after_line j x.stamps r.placed ran.0 ran.1

abbrev pub lines_by : (Option Entries → Acts Outcome) → LineEnd → Acts Outcome
lines_by rest (Next env) = rest env
lines_by rest (line_end.Ended o) = done o

abbrev pub lines_from : Job → RecipeStart → Option Entries → List ParsedLine → Acts Outcome
lines_from j x env [] = done outcome.Made
lines_from j x env (r ∷ rs) = turn_of j x env r >>= lines_by (λ next. lines_from j x next rs)

abbrev pub carry_out : Job → Course → Acts Outcome
carry_out j (course.Ended o) = done o
carry_out j (course.Run x rs) = lines_from j x None rs
