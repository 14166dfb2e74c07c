-- What is read for a utility, before it writes anything.
--     found cwd name         the bytes of a file operand, or why there are none
--     sources cwd ns         the same of one operand after another
use Rattle.std.specs.Prelude.{ℕ, List, [], ◌∷◌, ◌++◌, Result, Ok, Err, Bool, ◌&&◌, ◌==◌, length, codes, if◌then◌else◌}
use Rattle.std.specs.Str.{bytes_eq}
use Rattle.em_view.specs.declared.done.ExecNo.{ExecNo}
use Rattle.em_view.specs.Actions.{Action, ◌>>=◌, done}
use Rattle.em_utility.specs.declared.operand.OperandNo.{OperandNo}
use Rattle.em_utility.specs.declared.operand.OperandNo.TheVariants.{Fault, End}
use Rattle.em_utility.specs.Operands.{read}
use Rattle.em_textutil.specs.declared.source.OperandContent.{OperandContent}
use Rattle.em_textutil.specs.declared.source.OperandContent.TheVariants.{Bytes, No}
use Rattle.em_textutil.specs.declared.source.ReadOperand.{ReadOperand}

-- a fault of the operand is kept
abbrev pub kept : Result (List ℕ) OperandNo → Result OperandContent ExecNo
kept (Ok bytes) = Ok (Bytes bytes)
kept (Err (Fault operand reason)) = Ok (No reason)
kept (Err (End e)) = Err e

unfoldable pub found : List ℕ → List ℕ → Action ExecNo OperandContent
found cwd name = λ o w. (kept (read cwd name o w).0, (read cwd name o w).1)

-- where a dash is the input, it is read for a `-`
abbrev pub is_input : Bool → List ℕ → Bool
is_input dashed name = dashed && bytes_eq name (codes "-")

unfoldable pub found_in : List ℕ → Bool → List ℕ → List ℕ → Action ExecNo OperandContent
found_in cwd dashed input name = if is_input dashed name then done (Bytes input) else found cwd name

abbrev pub sources : List ℕ → Bool → List ℕ → List ReadOperand → List (List ℕ) → Action ExecNo (List ReadOperand)
sources cwd dashed input so_far [] = done so_far
sources cwd dashed input so_far (name ∷ names) = do
  what ← found_in cwd dashed input name
  sources cwd dashed input (so_far ++ record { name = name; found = what } ∷ []) names

-- without an operand the input is read, under the empty name, which no file has
abbrev pub input_alone : List ℕ → List ReadOperand
input_alone input = record { name = []; found = Bytes input } ∷ []

abbrev pub read_all : List ℕ → Bool → List ℕ → List (List ℕ) → Action ExecNo (List ReadOperand)
read_all cwd dashed input names = if length names == 0 then done (input_alone input) else sources cwd dashed input [] names
