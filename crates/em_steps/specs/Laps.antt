-- A job that pauses at each line that begins a make within a make.
--     handed j o dir              what such a line orders: the settings of the job's make, and then the line's own
--     by_words ..                 what the words of such a line come to, or else the line's status
--     lap j depth x env l m       a line of this meaning, up to its end or to where it begins a make
--     lines_plot ..               all lines in order, with the pauses
--     fresh_plot j depth known    a job from its begin on
--     ended_plot                  nothing is left of a job
--     plot_of s, back_of s        what is left of a job on its way; and of one that pauses, by how the make ended
use Rattle.std.specs.Prelude.{ℕ, suc, nat_lt, ◌||◌, Bool, true, false, List, [], ◌∷◌, ◌++◌, map, drop, Option, Some, None, Result, Ok, Err, if◌then◌else◌}
use Rattle.em_base.specs.declared.construct.Construct.TheVariants as construct
use Rattle.em_base.specs.declared.place.Place.{Place}
use Rattle.em_tree.specs.declared.node.Kind.{Kind}
use Rattle.em_tree.specs.declared.node.Kind.TheVariants as kind
use Rattle.em_tree.specs.declared.outcome.Outcome.{Outcome}
use Rattle.em_tree.specs.declared.outcome.Outcome.TheVariants as outcome
use Rattle.em_view.specs.declared.done.ExecNo.{ExecNo}
use Rattle.em_view.specs.Rows.{kind_at}
use Rattle.em_view.specs.Steps.{Steps, done, refuse, own, below, within}
use Rattle.em_view.specs.Do.{◌>>=◌}
use Rattle.em_vars.specs.Entries.{Entries}
use Rattle.em_cmdline.specs.declared.order.Order.{Order}
use Rattle.em_cmdline.specs.declared.order.WordNo.{WordNo}
use Rattle.em_cmdline.specs.SubWords.{sub_refusal, sub_order}
use Rattle.em_closing.specs.Refusals.{word_line, dir_line}
use Rattle.em_expand.specs.declared.spoken.Spoken.{Spoken}
use Rattle.em_word.specs.declared.shell.Shell.{Shell}
use Rattle.em_exec.specs.declared.sub.SubWords.{SubWords}
use Rattle.em_exec.specs.declared.sub.SubWords.TheVariants as words
use Rattle.em_exec.specs.declared.turn.SubLine.{SubLine}
use Rattle.em_exec.specs.Exec.{Session}
use Rattle.em_exec.specs.Subs.{words_if}
use Rattle.em_script.specs.Strands.{Meaning, meaning_of, Back, Status, Spent, Plot, Going, reading, from_output, to, over, pause}
use Rattle.em_task.specs.declared.job.Job.{Job}
use Rattle.em_job.specs.declared.carry.LineEnd.{LineEnd}
use Rattle.em_job.specs.declared.carry.LineEnd.TheVariants as line_end
use Rattle.em_steps.specs.declared.laps.Lap.{Lap}
use Rattle.em_steps.specs.declared.laps.Lap.TheVariants.{Next, Ended, Begins}
use Rattle.em_steps.specs.declared.laps.Tried.{Tried}
use Rattle.em_steps.specs.declared.laps.Tried.TheVariants as tried
use Rattle.em_job.specs.declared.prepare.Placed.{Placed}
use Rattle.em_job.specs.declared.prepare.RecipeStart.{RecipeStart}
use Rattle.em_job.specs.declared.prepare.Prepared.{Prepared}
use Rattle.em_job.specs.declared.prepare.Prepared.TheVariants as prepared
use Rattle.em_job.specs.declared.ready.ParsedLine.{ParsedLine}
use Rattle.em_steps.specs.declared.steps.Halfway.{Halfway}
use Rattle.em_steps.specs.declared.steps.Stage.{Stage}
use Rattle.em_steps.specs.declared.steps.Stage.TheVariants as stage
use Rattle.em_steps.specs.declared.steps.JobSteps.{JobSteps}
use Rattle.em_job.specs.declared.stop.JobStop.{JobStop}
use Rattle.em_job.specs.declared.stop.JobStop.TheVariants as stop
use Rattle.em_job.specs.Deciding.{Known, path_of}
use Rattle.em_job.specs.Stops.{Acts, of_desk, of_line, stop_text, end_of}
use Rattle.em_job.specs.Preparing.{say, prepare_with}
use Rattle.em_job.specs.Carrying.{run_in, environment_once, session_of, said_in, shell_of, does_run, echo, after_line}
use Rattle.em_job.specs.Effects.{saying}

-- ---- a line that begins a make

-- the settings of the job's make hold, then the line's own; neither `-n` nor `-q` is handed on
abbrev pub handed : Job → Order → List ℕ → Order
handed j o dir = record o {
  dir = dir;
  keep_going = j.flags.keep_going || o.keep_going;
  dry = false;
  question = false;
  silent = j.flags.silent || o.silent;
  ignore = j.flags.ignore || o.ignore;
  always = j.flags.always || o.always;
  assigned = j.assigned ++ o.assigned;
}

-- the line's make works in this directory, one level deeper
abbrev pub begun_at : Job → ℕ → List (List ℕ) → Shell → Order → List ℕ → SubLine
begun_at j depth ws shell o dir = record { words = ws; shell = record shell { cwd = dir }; order = handed j o dir; depth = suc depth }

-- the line has this refusal as its output, and status 2
abbrev pub refused : List ℕ → Spoken → Result (Tried × Spoken) (JobStop × Spoken)
refused text s = Ok (tried.Ran 2, record s { said = s.said ++ text })

-- makes stand at most 8 levels deep
abbrev pub if_deep : Place → SubLine → Bool → Spoken → Result (Tried × Spoken) (JobStop × Spoken)
if_deep p line true s = Ok (tried.Begins line, s)
if_deep p line false s = Err (stop.Refused construct.Depth p, s)

abbrev pub is_dir : Kind → Bool
is_dir kind.Dir = true
is_dir _ = false

abbrev pub by_kind : Job → ℕ → Place → List (List ℕ) → Shell → Order → List ℕ → Kind → Spoken → Result (Tried × Spoken) (JobStop × Spoken)
by_kind j depth p ws shell o dir k s = if is_dir k then if_deep p (begun_at j depth ws shell o dir) (nat_lt depth 8) s else refused (dir_line o.dir) s

-- the directory of `-C`, read against the line's own
abbrev pub in_dir : Job → ℕ → Place → List (List ℕ) → Shell → Order → Option (List ℕ) → Acts Tried
in_dir j depth p ws shell o None = own (refused (dir_line o.dir))
in_dir j depth p ws shell o (Some dir) = below (of_desk p) (kind_at dir) >>= (λ k. own (by_kind j depth p ws shell o dir k))

abbrev pub by_order : Job → ℕ → Place → List (List ℕ) → Shell → Option WordNo → Order → Acts Tried
by_order j depth p ws shell (Some e) o = own (refused (word_line e))
by_order j depth p ws shell None o = in_dir j depth p ws shell o (path_of shell.cwd o.dir)

-- a line that begins no make runs in the shell
abbrev pub by_words : Job → ℕ → Place → Steps Session ExecNo ℕ → Option SubWords → Shell → Acts Tried
by_words j depth p m None shell = run_in p m shell >>= (λ n. done (tried.Ran n))
by_words j depth p m (Some (words.Words ws)) shell = by_order j depth p ws shell (sub_refusal ws) (sub_order ws)
by_words j depth p m (Some (words.NoDir name)) shell = own (refused (dir_line name))
by_words j depth p m (Some (words.Status n)) shell = done (tried.Ran n)

-- ---- a line

-- a value, and the shell behind it
abbrev pub with_shell : {A : Type 0} → Steps Session ExecNo A → Steps Session ExecNo (A × Shell)
with_shell m = m >>= (λ a s. done (a, s.shell) s)

-- the words of a line that begins a make, and the shell behind them
unfoldable pub words_in : Place → Option (Steps Session ExecNo SubWords) → Shell → Acts (Option SubWords × Shell)
words_in p sub shell = within (session_of shell) said_in (of_line p) (with_shell (words_if sub))

-- what follows a line
abbrev pub lap_of : LineEnd → Lap
lap_of (line_end.Next env) = Next env
lap_of (line_end.Ended o) = Ended o

abbrev pub said : Spoken → List ℕ
said s = s.said

-- a stop is told, and is how the job ends
abbrev pub close : Job → JobStop → Spoken → Outcome × List ℕ
close j e s = (end_of e, s.said ++ stop_text j.plan.target e)

module _ (j : Job) (depth : ℕ) where
  unfoldable pub try_line : Place → Meaning → Shell → Acts Tried
  try_line p m shell = do
    w ← words_in p m.sub shell
    by_words j depth p m.run w.0 w.1

  module _ (x : RecipeStart) where
    unfoldable pub in_env : Option Entries → Placed → Meaning → Acts (Option Entries × Tried)
    in_env env l m = do
      e ← environment_once j x.autos l.place env
      t ← try_line l.place m (shell_of j e)
      done (Some e, t)

    -- one that is only shown has status 0
    abbrev pub if_tried : Option Entries → Placed → Meaning → Bool → Acts (Option Entries × Tried)
    if_tried env l m true = in_env env l m
    if_tried env l m false = done (env, tried.Ran 0)

    abbrev pub by_try : Placed → Option Entries → Tried → Acts Lap
    by_try l env (tried.Ran n) = after_line j x.stamps l env n >>= (λ e. done (lap_of e))
    by_try l env (tried.Begins line) = done (Begins env line)

    unfoldable pub tried_line : Option Entries → Placed → Meaning → Acts (Option Entries × Tried)
    tried_line env l m = do
      u ← own (say (echo j l))
      if_tried env l m (does_run j l)

    unfoldable pub lap : Option Entries → Placed → Meaning → Acts Lap
    lap env l m = do
      t ← tried_line env l m
      by_try l t.0 t.1

  -- ---- all lines

  module _ (x : RecipeStart) where
    abbrev pub by_end : (Option Entries → Going Spoken) → LineEnd → Going Spoken
    by_end rest (line_end.Next env) = rest env
    by_end rest (line_end.Ended o) = over said o

    -- the line goes on with the status of its make; where that has spent the fuel in reading or
    -- planning, the job ends at the line
    abbrev pub resumed : Placed → Option Entries → (Option Entries → Going Spoken) → Back → Going Spoken
    resumed l env rest (Status n) = to (close j) (after_line j x.stamps l env n) (by_end rest)
    resumed l env rest Spent = to (close j) (refuse (stop.Spent l.place)) (over said)

    abbrev pub by_lap : Placed → (Option Entries → Going Spoken) → Lap → Going Spoken
    by_lap l rest (Next env) = rest env
    by_lap l rest (Ended o) = over said o
    by_lap l rest (Begins env line) = pause said line (λ b. from_output saying (resumed l env rest b))

    abbrev pub lines_plot : List (Placed × Meaning) → Option Entries → Going Spoken
    lines_plot [] env = over said outcome.Made
    lines_plot (r ∷ rs) env = to (close j) (lap x env r.0 r.1) (by_lap r.0 (lines_plot rs))

  -- all texts are read before the first line runs
  abbrev pub read_plot : List Placed → List (Placed × Meaning) → (List (Placed × Meaning) → Going Spoken) → Going Spoken
  read_plot [] so_far k = k so_far
  read_plot (p ∷ ps) so_far k = reading p.command.text (λ m. read_plot ps (so_far ++ (p, m) ∷ []) k)

  abbrev pub by_prepared : Prepared → Going Spoken
  by_prepared (prepared.Ended o) = over said o
  by_prepared (prepared.Lines x ps) = read_plot ps [] (λ rs. lines_plot x rs None)

  unfoldable pub fresh : Known → Going Spoken
  fresh known = to (close j) (prepare_with known j) by_prepared

-- ---- a job on its way

abbrev pub meant : ParsedLine → Placed × Meaning
meant r = (r.placed, meaning_of r.line)

abbrev pub nothing_left : Going Spoken
nothing_left = over said outcome.Made

abbrev pub ended_plot : Plot
ended_plot = from_output saying nothing_left

module _ (j : Job) (depth : ℕ) where
  -- from the line that stands first on, whose make has ended so
  abbrev pub going_at : RecipeStart → Option Entries → List ParsedLine → Back → Going Spoken
  -- where no line stands at that place; a job that pauses stands at one
  going_at x env [] b = nothing_left
  going_at x env (r ∷ rs) b = resumed j depth x r.placed env (lines_plot j depth x (map meant rs)) b

  abbrev pub going_on : Halfway → Back → Going Spoken
  going_on h b = going_at h.opened h.env (drop h.at h.lines) b

  abbrev pub going_by : Known → Stage → Going Spoken
  going_by known stage.Fresh = fresh j depth known
  going_by known (stage.Answered h n) = going_on h (Status n)
  going_by known (stage.Spent h) = going_on h Spent
  going_by known _ = nothing_left

  abbrev pub back_by : Stage → Back → Going Spoken
  back_by (stage.Waiting h) b = going_on h b
  back_by _ b = nothing_left

abbrev pub fresh_plot : Job → ℕ → Known → Plot
fresh_plot j depth known = from_output saying (fresh j depth known)

unfoldable pub plot_of : JobSteps → Plot
plot_of s = from_output saying (going_by s.spec s.depth s.known s.stage)

unfoldable pub back_of : JobSteps → Back → Plot
back_of s b = from_output saying (back_by s.spec s.depth s.stage b)
