-- A command by its words.
--     refused_as name                the construct under which a command of this name is refused
--     run words input in_loop        what it leaves; the first word is its name
--     run_command ..                 the same, and its status is the shell's
use Rattle.std.specs.Prelude.{ℕ, ◌||◌, Bool, List, [], ◌∷◌, codes, drop, Option, Some, None, Result, Ok, if◌then◌else◌}
use Rattle.std.specs.List.{list_any}
use Rattle.std.specs.Str.{bytes_eq}
use Rattle.em_base.specs.declared.construct.Construct.{Construct}
use Rattle.em_base.specs.declared.construct.Construct.TheVariants.{Submake, Command}
use Rattle.em_view.specs.declared.done.Done.{Done}
use Rattle.em_view.specs.declared.done.ExecNo.{ExecNo}
use Rattle.em_view.specs.declared.done.ExecNo.TheVariants.{Refused}
use Rattle.em_view.specs.Actions as action
use Rattle.em_view.specs.Actions.{Action}
use Rattle.em_view.specs.Steps.{Steps, done, refuse, own, below}
use Rattle.em_view.specs.Do.{◌>>=◌}
use Rattle.em_utility.specs.Reasons.{error_line}
use Rattle.em_utility.specs.Writing.{nothing}
use Rattle.em_fileutil.specs.Utilities as files
use Rattle.em_textutil.specs.Utilities as texts
use Rattle.em_word.specs.declared.shell.Shell.{Shell}
use Rattle.em_command.specs.declared.builtin.Builtin.{Builtin}
use Rattle.em_command.specs.declared.builtin.Ran.{Ran}
use Rattle.em_command.specs.Heres.{piece}
use Rattle.em_command.specs.Builtins.{builtin_of, builtin, plain}

abbrev pub refused_names : List (List ℕ)
refused_names = codes "alias" ∷ codes "." ∷ codes "command" ∷ codes "eval" ∷ codes "exec" ∷ codes "getopts" ∷ codes "jobs"
    ∷ codes "read" ∷ codes "readonly" ∷ codes "return" ∷ codes "set" ∷ codes "shift" ∷ codes "source" ∷ codes "times"
    ∷ codes "trap" ∷ codes "type" ∷ codes "ulimit" ∷ codes "umask" ∷ codes "wait" ∷ []

abbrev pub is_make : List ℕ → Bool
is_make name = bytes_eq name (codes "emake") || bytes_eq name (codes "make")

abbrev pub refused_as : List ℕ → Option Construct
refused_as name =
    if is_make name then Some Submake
    else if list_any (bytes_eq name) refused_names then Some (Command name)
    else None

abbrev pub not_found : List ℕ → Done
not_found name = record { status = 127; pieces = piece 2 (error_line (codes "sh") name (codes "not found")) ∷ [] }

abbrev pub or_unknown : List ℕ → Option Done → Action ExecNo Ran
or_unknown name (Some d) = action.done (plain d)
or_unknown name None = action.done (plain (not_found name))

unfoldable pub text_utility : List ℕ → List (List ℕ) → List ℕ → List ℕ → Action ExecNo Ran
text_utility name words input cwd = action.◌>>=◌ (texts.utility words input cwd) (or_unknown name)

abbrev pub or_text : List ℕ → List (List ℕ) → List ℕ → List ℕ → Option Done → Action ExecNo Ran
or_text name words input cwd (Some d) = action.done (plain d)
or_text name words input cwd None = text_utility name words input cwd

-- the utility of this name, if there is one
unfoldable pub utility : List ℕ → List (List ℕ) → List ℕ → List ℕ → Action ExecNo Ran
utility name words input cwd = action.◌>>=◌ (files.utility words cwd) (or_text name words input cwd)

abbrev pub itself : ExecNo → ExecNo
itself e = e

-- in these the words begin with the name
abbrev pub by_builtin : Option Builtin → List ℕ → List (List ℕ) → List ℕ → Bool → Steps Shell ExecNo Ran
by_builtin (Some b) name words input in_loop = builtin b in_loop (drop 1 words)
by_builtin None name words input in_loop = λ s. below itself (utility name words input s.cwd) s

abbrev pub by_refusal : Option Construct → List ℕ → List (List ℕ) → List ℕ → Bool → Steps Shell ExecNo Ran
by_refusal (Some c) name words input in_loop = refuse (Refused c)
by_refusal None name words input in_loop = by_builtin (builtin_of name) name words input in_loop

-- without words nothing is done
unfoldable pub run : List (List ℕ) → List ℕ → Bool → Steps Shell ExecNo Ran
run [] input in_loop = done (plain nothing)
run (name ∷ words) input in_loop = by_refusal (refused_as name) name (name ∷ words) input in_loop

abbrev pub ended : Ran → Shell → Result (Ran × Shell) (ExecNo × Shell)
ended r s = Ok (r, record s { status = r.done.status })

unfoldable pub run_command : List (List ℕ) → List ℕ → Bool → Steps Shell ExecNo Ran
run_command words input in_loop = do
  r ← run words input in_loop
  own (ended r)
