-- The built-in commands: those that are about the shell itself.
--     builtin_of name            the built-in of this name
--     asked b in_loop words      what it does to the shell and answers
--     builtin b in_loop words    the same, with the line of its fault written
use Rattle.std.specs.Prelude.{ℕ, ◌==◌, ◌+◌, Bool, true, List, [], ◌∷◌, ◌++◌, codes, take, drop, position, Option, Some, None, Result, Ok, Err, if◌then◌else◌}
use Rattle.std.specs.Str.{bytes_eq}
use Rattle.em_base.specs.Numbers.{number_of}
use Rattle.em_tree.specs.declared.node.Kind.{Kind}
use Rattle.em_tree.specs.declared.node.Kind.TheVariants as kind
use Rattle.em_vars.specs.declared.var.Var.{Var}
use Rattle.em_vars.specs.Entries.{value_of, without}
use Rattle.em_view.specs.declared.no.FileNo.TheVariants as file
use Rattle.em_view.specs.declared.done.Done.{Done}
use Rattle.em_view.specs.declared.done.ExecNo.{ExecNo}
use Rattle.em_view.specs.Actions as action
use Rattle.em_view.specs.Actions.{Action}
use Rattle.em_view.specs.Rows.{kind_at}
use Rattle.em_view.specs.Steps.{Steps, refuse, own, below, with_state}
use Rattle.em_view.specs.Do.{◌>>=◌}
use Rattle.em_utility.specs.declared.options.Options.{Options}
use Rattle.em_utility.specs.declared.reason.Reason.{Reason}
use Rattle.em_utility.specs.declared.reason.Reason.TheVariants as reason
use Rattle.em_utility.specs.declared.operand.OperandNo.{OperandNo}
use Rattle.em_utility.specs.declared.operand.OperandNo.TheVariants as operand
use Rattle.em_utility.specs.Options.{read_options}
use Rattle.em_utility.specs.Writing as writing
use Rattle.em_utility.specs.Writing.{nothing, faulted}
use Rattle.em_utility.specs.Operands.{gives, located, named}
use Rattle.em_word.specs.declared.shell.Shell.{Shell}
use Rattle.em_command.specs.declared.jump.Flow.{Flow}
use Rattle.em_command.specs.declared.jump.Flow.TheVariants as flow
use Rattle.em_command.specs.declared.builtin.Builtin.{Builtin}
use Rattle.em_command.specs.declared.builtin.Builtin.TheVariants.{Cd, Pwd, Exit, Export, Unset, Break, Continue}
use Rattle.em_command.specs.declared.builtin.BuiltinResult.{BuiltinResult}
use Rattle.em_command.specs.declared.builtin.Ran.{Ran}
use Rattle.em_command.specs.Heres.{with_text}

abbrev pub builtin_of : List ℕ → Option Builtin
builtin_of name =
    if bytes_eq name (codes "cd") then Some Cd
    else if bytes_eq name (codes "pwd") then Some Pwd
    else if bytes_eq name (codes "exit") then Some Exit
    else if bytes_eq name (codes "export") then Some Export
    else if bytes_eq name (codes "unset") then Some Unset
    else if bytes_eq name (codes "break") then Some Break
    else if bytes_eq name (codes "continue") then Some Continue
    else None

abbrev pub name_of : Builtin → List ℕ
name_of Cd = codes "cd"
name_of Pwd = codes "pwd"
name_of Exit = codes "exit"
name_of Export = codes "export"
name_of Unset = codes "unset"
name_of Break = codes "break"
name_of Continue = codes "continue"

-- what a built-in does: an answer, or the fault of an operand
abbrev pub Asked : Type 0
Asked = Steps Shell OperandNo BuiltinResult

-- the same of one that asks nothing
abbrev pub Sets : Type 0
Sets = Shell → Result (BuiltinResult × Shell) (OperandNo × Shell)

-- the same of one that changes nothing either
abbrev pub says : (Shell → Result BuiltinResult OperandNo) → Asked
says f = own (λ s. with_state (f s) s)

abbrev pub answer : ℕ → List ℕ → Flow → BuiltinResult
answer status text f = record { status = status; text = text; flow = f }

abbrev pub well : BuiltinResult
well = answer 0 [] flow.On

-- it has too few operands or too many
abbrev pub wrong : Reason → OperandNo
wrong r = operand.Fault [] r

-- ---- cd, pwd

abbrev pub only_directory : List ℕ → List ℕ → Kind → Result (List ℕ) OperandNo
only_directory name p kind.Dir = Ok p
only_directory name p kind.File = Err (operand.Fault name (reason.File file.NotDir))
only_directory name p kind.Link = Err (operand.Fault name (reason.File file.NotDir))
only_directory name p kind.Absent = Err (operand.Fault name (reason.File file.Absent))

abbrev pub if_directory : List ℕ → List ℕ → Kind → Action OperandNo (List ℕ)
if_directory name p k = gives (only_directory name p k)

unfoldable pub directory_at : List ℕ → List ℕ → Action OperandNo (List ℕ)
directory_at name p = action.◌>>=◌ (named name (kind_at p)) (if_directory name p)

-- the directory that a name says
unfoldable pub directory : List ℕ → List ℕ → Action OperandNo (List ℕ)
directory cwd name = action.◌>>=◌ (gives (located cwd name)) (directory_at name)

abbrev pub itself : OperandNo → OperandNo
itself e = e

abbrev pub moved : List ℕ → Sets
moved p s = Ok (well, record s { cwd = p })

unfoldable pub change_directory : List ℕ → List ℕ → Asked
change_directory cwd name = do
  p ← below itself (directory cwd name)
  own (moved p)

abbrev pub cd : List (List ℕ) → Asked
cd [] = refuse (wrong reason.MissingOperand)
cd (d ∷ []) = λ s. change_directory s.cwd d s
cd (d ∷ e ∷ es) = refuse (wrong reason.ExtraOperand)

abbrev pub pwd : List ℕ → List (List ℕ) → Result BuiltinResult OperandNo
pwd cwd [] = Ok (answer 0 (cwd ++ 10 ∷ []) flow.On)
pwd cwd (o ∷ os) = Err (wrong reason.ExtraOperand)

-- ---- exit, break, continue

-- the status with which the shell ends: the last one, or the number that the word writes
abbrev pub exit_by : List ℕ → Option ℕ → Result BuiltinResult OperandNo
exit_by word (Some n) = Ok (answer n [] flow.Exit)
exit_by word None = Err (operand.Fault word reason.NotANumber)

abbrev pub exit : ℕ → List (List ℕ) → Result BuiltinResult OperandNo
exit last [] = Ok (answer last [] flow.Exit)
exit last (n ∷ []) = exit_by n (number_of 255 n)
exit last (n ∷ o ∷ os) = Err (wrong reason.ExtraOperand)

-- outside a loop it does nothing
abbrev pub leave : Bool → Flow → List (List ℕ) → Result BuiltinResult OperandNo
leave in_loop f [] = Ok (answer 0 [] (if in_loop then f else flow.On))
leave in_loop f (o ∷ os) = Err (wrong reason.ExtraOperand)

-- ---- export, unset

abbrev pub mark : List ℕ → Option Var → Shell → Shell
mark name None s = s
mark name (Some v) s = with_text name v.text true s

-- a name, or one with a value behind its first `=`
abbrev pub export_at : List ℕ → Option ℕ → Shell → Shell
export_at word None s = mark word (value_of s.vars word) s
export_at word (Some n) s = with_text (take n word) (drop (n + 1) word) true s

abbrev pub export_one : List ℕ → Shell → Shell
export_one word s = export_at word (position (λ b. b == 61) word) s

abbrev pub unset_one : List ℕ → Shell → Shell
unset_one name s = record s { vars = without s.vars name }

abbrev pub each : (List ℕ → Shell → Shell) → List (List ℕ) → Shell → Shell
each change [] s = s
each change (o ∷ os) s = each change os (change o s)

-- one operand at least
abbrev pub each_of_some : (List ℕ → Shell → Shell) → List (List ℕ) → Sets
each_of_some change [] s = Err (wrong reason.MissingOperand, s)
each_of_some change (o ∷ os) s = Ok (well, each change (o ∷ os) s)

-- ---- all of them

abbrev pub asked_of : Builtin → Bool → List (List ℕ) → Asked
asked_of Cd in_loop os = cd os
asked_of Pwd in_loop os = says (λ s. pwd s.cwd os)
asked_of Exit in_loop os = says (λ s. exit s.status os)
asked_of Export in_loop os = own (each_of_some export_one os)
asked_of Unset in_loop os = own (each_of_some unset_one os)
asked_of Break in_loop os = says (λ s. leave in_loop flow.Break os)
asked_of Continue in_loop os = says (λ s. leave in_loop flow.Continue os)

-- no built-in has an option's letter
abbrev pub with_options : Builtin → Bool → List (List ℕ) → Result Options ExecNo → Asked
with_options b in_loop words (Ok o) = asked_of b in_loop (drop o.taken words)
with_options b in_loop words (Err e) = refuse (operand.End e)

unfoldable pub asked : Builtin → Bool → List (List ℕ) → Asked
asked b in_loop words = with_options b in_loop words (read_options (name_of b) [] [] words)

abbrev pub ran : BuiltinResult → Ran
ran a = record { done = writing.written 1 a.text (record { status = a.status; pieces = [] }); flow = a.flow }

abbrev pub plain : Done → Ran
plain d = record { done = d; flow = flow.On }

abbrev pub settled : List ℕ → Result (BuiltinResult × Shell) (OperandNo × Shell) → Result (Ran × Shell) (ExecNo × Shell)
settled name (Ok (a, s)) = Ok (ran a, s)
settled name (Err (operand.Fault word r, s)) = Ok (plain (faulted name word r nothing), s)
settled name (Err (operand.End e, s)) = Err (e, s)

-- a fault of an operand is written
unfoldable pub settling : List ℕ → Asked → Steps Shell ExecNo Ran
settling name m = λ s o w. (settled name (m s o w).0, (m s o w).1)

abbrev pub builtin : Builtin → Bool → List (List ℕ) → Steps Shell ExecNo Ran
builtin b in_loop words = settling (name_of b) (asked b in_loop words)
