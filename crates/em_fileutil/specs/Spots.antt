-- An operand: its name, as it was typed, and its path. What comes of it has a name of its own: a
-- child of `d` is `d/x`.
--     operand_at cwd name     an operand as it was typed
--     child o c               what has the name c in it
--     is_within s t           the path t is s, or stands below it
--     there o m               what is asked of an operand; it is absent where nothing is told
--     levels                  how many levels a walk goes down at most: a path has at most so many components
use Rattle.std.specs.Prelude.{ℕ, ◌==◌, ◌&&◌, ◌||◌, nat_eq, Bool, true, List, [], ◌∷◌, ◌++◌, length, drop, Option, Some, None, Result, Ok, Err}
use Rattle.std.specs.List.{starts_with}
use Rattle.std.specs.Str.{bytes_eq}
use Rattle.em_path.specs.declared.path.PathNo.{PathNo}
use Rattle.em_path.specs.Paths.{root_text, child_text}
use Rattle.em_path.specs.Reading.{limit_fault}
use Rattle.em_view.specs.declared.no.FileNo.{FileNo}
use Rattle.em_view.specs.declared.no.FileNo.TheVariants as file
use Rattle.em_view.specs.declared.no.DeskNo.{DeskNo}
use Rattle.em_view.specs.declared.done.Done.{Done}
use Rattle.em_view.specs.Actions.{Action}
use Rattle.em_view.specs.Steps.{Steps, with_state, own, within}
use Rattle.em_utility.specs.declared.reason.Reason.{Reason}
use Rattle.em_utility.specs.declared.reason.Reason.TheVariants as reason
use Rattle.em_utility.specs.declared.operand.OperandNo.{OperandNo}
use Rattle.em_utility.specs.declared.operand.OperandNo.TheVariants.{Fault, End}
use Rattle.em_utility.specs.Operands.{refused, located, Tries, Runs}
use Rattle.em_fileutil.specs.declared.operand.Operand.{Operand}

abbrev pub operand_by : List ℕ → Result (List ℕ) OperandNo → Result Operand OperandNo
operand_by name (Ok p) = Ok (record { name = name; path = p })
operand_by name (Err e) = Err e

abbrev pub operand_at : List ℕ → List ℕ → Result Operand OperandNo
operand_at cwd name = operand_by name (located cwd name)

abbrev pub fault : Operand → Reason → OperandNo
fault o r = Fault o.name r

-- a refusal of an operation on files, told without one
abbrev pub told : Operand → FileNo → OperandNo
told o f = fault o (reason.File f)

abbrev pub child_by : Option PathNo → List ℕ → List ℕ → Result Operand OperandNo
child_by None name p = Ok (record { name = name; path = p })
child_by (Some limit) name p = Err (Fault name reason.BadPath)

abbrev pub child : Operand → List ℕ → Result Operand OperandNo
child o c = child_by (limit_fault (child_text o.path c)) (o.name ++ 47 ∷ c) (child_text o.path c)

abbrev pub begins_component : List ℕ → Bool
begins_component [] = true
begins_component (b ∷ bs) = b == 47

abbrev pub is_within : List ℕ → List ℕ → Bool
is_within s t = bytes_eq s root_text || (starts_with nat_eq t s && begins_component (drop (length s) t))

-- ---- steps

abbrev pub gives : {A : Type 0} → Result A OperandNo → Steps Done OperandNo A
gives r = own (with_state r)

abbrev pub there_by : {A : Type 0} → Operand → Result (Option A) DeskNo → Result A OperandNo
there_by o (Ok (Some a)) = Ok a
there_by o (Ok None) = Err (told o file.Absent)
there_by o (Err e) = Err (refused o.name e)

unfoldable pub there : {A : Type 0} → Operand → Action DeskNo (Option A) → Steps Done OperandNo A
there o m = λ d oracle w. (with_state (there_by o (m oracle w).0) d, (m oracle w).1)

abbrev pub same_done : Done → Done
same_done d = d

abbrev pub new_done : Done → Done → Done
new_done d e = e

-- a run within what is done for an operand
abbrev pub ending : Runs → Tries
ending m = within same_done new_done End m

abbrev pub levels : ℕ
levels = 64
