-- The text utilities by their names.
--     utility_of name       the utility of this name
--     utility ..            what a command does whose first word is this name: none of these, or what it leaves
use Rattle.std.specs.Prelude.{ℕ, ◌-◌, true, false, not, Bool, List, [], ◌∷◌, ◌++◌, length, take, drop, codes, Option, Some, None, Result, Ok, Err, slice_get, if◌then◌else◌}
use Rattle.std.specs.Str.{bytes_eq}
use Rattle.em_view.specs.declared.done.Done.{Done}
use Rattle.em_view.specs.declared.done.ExecNo.{ExecNo}
use Rattle.em_view.specs.Actions.{Action, ◌>>=◌, done, fail}
use Rattle.em_utility.specs.declared.options.Options.{Options}
use Rattle.em_utility.specs.declared.reason.Reason.{Reason}
use Rattle.em_utility.specs.Writing.{nothing, faulted}
use Rattle.em_utility.specs.Operands.{gives}
use Rattle.em_textutil.specs.declared.name.NoInputUtility.TheVariants as plain
use Rattle.em_textutil.specs.declared.name.InputUtility.{InputUtility}
use Rattle.em_textutil.specs.declared.name.InputUtility.TheVariants as reading
use Rattle.em_textutil.specs.declared.name.TextUtility.{TextUtility}
use Rattle.em_textutil.specs.declared.name.TextUtility.TheVariants as named
use Rattle.em_textutil.specs.declared.job.TextOperation.{TextOperation}
use Rattle.em_textutil.specs.declared.plan.ParsedArgs.{ParsedArgs}
use Rattle.em_textutil.specs.declared.plan.ParsedArgs.TheVariants.{Read, Wrong}
use Rattle.em_textutil.specs.Sources.{read_all}
use Rattle.em_textutil.specs.Jobs.{job_done, muted}
use Rattle.em_textutil.specs.Plans.{name_of, given_options, planned, files_of, is_silent}
use Rattle.em_textutil.specs.Plain.{plain_done}
use Rattle.em_textutil.specs.declared.expression.ExpressionResult.TheVariants.{Syntax}
use Rattle.em_textutil.specs.Expressions.{test_words, answer}

abbrev pub utility_of : List ℕ → Option TextUtility
utility_of name =
    if bytes_eq name (codes "cat") then Some (named.Reading reading.Cat)
    else if bytes_eq name (codes "echo") then Some (named.Plain plain.Echo)
    else if bytes_eq name (codes "printf") then Some (named.Plain plain.Printf)
    else if bytes_eq name (codes "head") then Some (named.Reading reading.Head)
    else if bytes_eq name (codes "tail") then Some (named.Reading reading.Tail)
    else if bytes_eq name (codes "wc") then Some (named.Reading reading.Wc)
    else if bytes_eq name (codes "sort") then Some (named.Reading reading.Sort)
    else if bytes_eq name (codes "uniq") then Some (named.Reading reading.Uniq)
    else if bytes_eq name (codes "cmp") then Some (named.Reading reading.Cmp)
    else if bytes_eq name (codes "grep") then Some (named.Reading reading.Grep)
    else if bytes_eq name (codes "basename") then Some (named.Plain plain.Basename)
    else if bytes_eq name (codes "dirname") then Some (named.Plain plain.Dirname)
    else if bytes_eq name (codes "test") then Some named.Test
    else if bytes_eq name (codes "[") then Some named.Bracket
    else if bytes_eq name (codes "true") then Some (named.Plain plain.True)
    else if bytes_eq name (codes "false") then Some (named.Plain plain.False)
    else if bytes_eq name (codes ":") then Some (named.Plain plain.True)
    else None

-- a `-` is the input for `cat` alone
abbrev pub is_dashed : InputUtility → Bool
is_dashed reading.Cat = true
is_dashed _ = false

abbrev pub wrong_done : InputUtility → Options → List ℕ → Reason → Done
wrong_done r o word reason = muted (is_silent r o) (faulted (name_of r) word reason nothing)

unfoldable pub carried : List ℕ → InputUtility → Options → List ℕ → List (List ℕ) → ParsedArgs → Action ExecNo Done
carried cwd r o input os (Wrong word reason) = done (wrong_done r o word reason)
carried cwd r o input os (Read job) = do
  ss ← read_all cwd (is_dashed r) input (files_of job os)
  done (job_done (name_of r) job ss)

unfoldable pub with_options : List ℕ → InputUtility → List ℕ → List (List ℕ) → Options → Action ExecNo Done
with_options cwd r input words o = do
  p ← gives (planned r o (drop o.taken words))
  carried cwd r o input (drop o.taken words) p

unfoldable pub reads : List ℕ → InputUtility → List ℕ → List (List ℕ) → Action ExecNo Done
reads cwd r input words = do
  o ← gives (given_options r words)
  with_options cwd r input words o

-- the last word is to be a `]`
abbrev pub isnt_end : Option (List ℕ) → Bool
isnt_end None = true
isnt_end (Some last) = not (bytes_eq last (codes "]"))

abbrev pub lacks_end : List (List ℕ) → Bool
lacks_end ws = isnt_end (slice_get ws (length ws - 1))

unfoldable pub bracketed : List ℕ → List (List ℕ) → Action ExecNo Done
bracketed cwd ws = if lacks_end ws then done (answer false Syntax) else test_words cwd (take (length ws - 1) ws)

abbrev pub run : List ℕ → TextUtility → List ℕ → List (List ℕ) → Action ExecNo Done
run cwd (named.Plain p) input words = gives (plain_done p words)
run cwd (named.Reading r) input words = reads cwd r input words
run cwd named.Test input words = test_words cwd words
run cwd named.Bracket input words = bracketed cwd words

abbrev pub ran : Done → Action ExecNo (Option Done)
ran d = done (Some d)

abbrev pub run_by : Option TextUtility → List ℕ → List ℕ → List (List ℕ) → Action ExecNo (Option Done)
run_by None cwd input words = done None
run_by (Some u) cwd input words = run cwd u input words >>= ran

unfoldable pub utility : List (List ℕ) → List ℕ → List ℕ → Action ExecNo (Option Done)
utility [] input cwd = done None
utility (name ∷ words) input cwd = run_by (utility_of name) cwd input words
