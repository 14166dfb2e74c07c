-- What is done to a shell on its way, and to what it has written.
--     begun shell            a shell that has written nothing yet
--     branch h               a copy of the shell, which has written nothing yet
--     wrote n text           the text stands behind what was written, on stream n
--     complained word r      the line of a redirection that fails; the status is 1
--     rejoined copy ended    what a copy wrote, and its status, after it has ended
--     overheard copy ended   the output of a copy; what it wrote to other streams was written here
--     assigned name text     a variable of the shell is set
--     faulted f h            why a word has no expansion
use Rattle.std.specs.Prelude.{ℕ, ◌==◌, Bool, false, not, List, [], ◌∷◌, ◌++◌, codes, Option, Some, None, Result, Ok, Err, if◌then◌else◌}
use Rattle.std.specs.List.{filter}
use Rattle.em_vars.specs.declared.var.Var.{Var}
use Rattle.em_vars.specs.declared.var.Flavour.TheVariants.{Simple}
use Rattle.em_vars.specs.declared.var.Origin.TheVariants.{Automatic}
use Rattle.em_vars.specs.Entries.{value_of, with_value}
use Rattle.em_view.specs.declared.done.Piece.{Piece}
use Rattle.em_view.specs.declared.done.ExecNo.TheVariants as exec
use Rattle.em_view.specs.Steps.{with_state}
use Rattle.em_utility.specs.declared.reason.Reason.{Reason}
use Rattle.em_utility.specs.Reasons.{reason_text, error_line}
use Rattle.em_word.specs.declared.shell.Shell.{Shell}
use Rattle.em_word.specs.declared.fault.WordFault.{WordFault}
use Rattle.em_word.specs.declared.fault.WordFault.TheVariants as fault
use Rattle.em_command.specs.declared.jump.Jump.{Jump}
use Rattle.em_command.specs.declared.jump.Jump.TheVariants.{Exit, End}
use Rattle.em_command.specs.declared.here.Here.{Here}
use Rattle.em_command.specs.Jumps.{Change}

abbrev pub begun : Shell → Here
begun shell = record { shell = shell; pieces = []; substituted = 0 }

abbrev pub branch : Here → Here
branch h = begun h.shell

abbrev pub with_status : ℕ → Here → Here
with_status n h = record h { shell = record h.shell { status = n } }

abbrev pub written : List Piece → Here → Here
written ps h = record h { pieces = h.pieces ++ ps }

abbrev pub piece : ℕ → List ℕ → Piece
piece n text = record { stream = n; text = text }

abbrev pub wrote : ℕ → List ℕ → Change (Unit {0})
wrote n text h = Ok (tt, written (piece n text ∷ []) h)

abbrev pub complaint : List ℕ → Reason → List ℕ
complaint word r = error_line (codes "sh") word (reason_text r)

abbrev pub complain : List ℕ → Reason → Here → Here
complain word r h = with_status 1 (written (piece 2 (complaint word r) ∷ []) h)

abbrev pub complained : List ℕ → Reason → Change (Unit {0})
complained word r h = Ok (tt, complain word r h)

-- ---- copies of the shell

-- what was written to a stream; what was written to others
abbrev pub text_on : ℕ → List Piece → List ℕ
text_on n [] = []
text_on n (p ∷ ps) = (if p.stream == n then p.text else []) ++ text_on n ps

abbrev pub off : ℕ → List Piece → List Piece
off n ps = filter (λ p. not (p.stream == n)) ps

-- a copy ends by itself alone: only what has no end has none around it
abbrev pub ended_as : {A : Type 0} → A → Result (Unit {0}) Jump → Result A Jump
ended_as a (Err (End e)) = Err (End e)
ended_as a _ = Ok a

abbrev pub rejoined : Here → Result (Unit {0}) Jump → Change (Unit {0})
rejoined copy ended h = with_state (ended_as tt ended) (with_status copy.shell.status (written copy.pieces h))

abbrev pub overheard : Here → Result (Unit {0}) Jump → Change (List ℕ)
overheard copy ended h = with_state (ended_as (text_on 1 copy.pieces) ended) (written (off 1 copy.pieces) h)

-- ---- variables

-- what the shell sets ranks above what it was given
abbrev pub variable : List ℕ → Bool → Var
variable text exported = record { flavour = Simple; origin = Automatic; text = text; exported = exported }

abbrev pub is_exported : Option Var → Bool
is_exported None = false
is_exported (Some v) = v.exported

abbrev pub with_text : List ℕ → List ℕ → Bool → Shell → Shell
with_text name text exported s = record s { vars = with_value s.vars name (variable text exported) }

-- a variable that was exported stays exported
abbrev pub set_text : List ℕ → List ℕ → Shell → Shell
set_text name text s = with_text name text (is_exported (value_of s.vars name)) s

abbrev pub assigned : List ℕ → List ℕ → Change (Unit {0})
assigned name text h = Ok (tt, record h { shell = set_text name text h.shell })

-- ---- faults of words

-- an unset name in `${name?word}` writes its line, and ends the shell with status 1
abbrev pub failed : List ℕ → Here → Jump × Here
failed line h = (Exit, with_status 1 (written (piece 2 line ∷ []) h))

abbrev pub faulted : WordFault → Here → Jump × Here
faulted (fault.Unset line) h = failed line h
faulted (fault.Refused c) h = (End (exec.Refused c), h)
faulted fault.Spent h = (End exec.Spent, h)
faulted fault.NoMemory h = (End exec.NoMemory, h)
