-- ls [-1] [-a] [-d], of one operand.
use Rattle.std.specs.Prelude.{◌==◌, ◌||◌, ℕ, Bool, false, not, List, [], ◌∷◌, ◌++◌, codes, Result, Ok, if◌then◌else◌}
use Rattle.std.specs.List.{flat_map}
use Rattle.em_tree.specs.declared.node.Kind.{Kind}
use Rattle.em_tree.specs.declared.node.Kind.TheVariants as kind
use Rattle.em_view.specs.declared.no.FileNo.TheVariants as file
use Rattle.em_view.specs.declared.done.Done.{Done}
use Rattle.em_view.specs.Rows.{kind_at, names}
use Rattle.em_view.specs.Steps.{own, refuse}
use Rattle.em_view.specs.Do.{◌>>=◌}
use Rattle.em_utility.specs.declared.operand.OperandNo.{OperandNo}
use Rattle.em_utility.specs.Writing.{written}
use Rattle.em_utility.specs.Operands.{at, Tries}
use Rattle.em_fileutil.specs.declared.operand.Operand.{Operand}
use Rattle.em_fileutil.specs.declared.list.Listing.{Listing}
use Rattle.em_fileutil.specs.Spots.{told, there}

abbrev pub prints : List ℕ → Done → Result (Unit {0} × Done) (OperandNo × Done)
prints text d = Ok (tt, written 1 text d)

abbrev pub line : List ℕ → List ℕ
line name = name ++ 10 ∷ []

abbrev pub is_hidden : List ℕ → Bool
is_hidden [] = false
is_hidden (b ∷ bs) = b == 46

abbrev pub shows : Listing → List ℕ → Bool
shows how name = how.all || not (is_hidden name)

-- of several operands a directory is headed by its name
abbrev pub heading : Listing → List ℕ → List ℕ
heading how name = if how.headed then name ++ codes ":\n" else []

abbrev pub shown : Listing → List ℕ → List ℕ
shown how name = if shows how name then line name else []

-- one name a line
abbrev pub lines : Listing → List (List ℕ) → List ℕ
lines how inside = flat_map (shown how) inside

abbrev pub list_text : Listing → List ℕ → List (List ℕ) → List ℕ
list_text how name inside = heading how name ++ lines how inside

unfoldable pub list_directory : Listing → Operand → Tries
list_directory how o = do
  inside ← there o (names o.path)
  own (prints (list_text how o.name inside))

abbrev pub list_by : Listing → Operand → Kind → Tries
list_by how o kind.Absent = refuse (told o file.Absent)
list_by how o kind.Link = refuse (told o file.Absent)
list_by how o kind.File = own (prints (line o.name))
list_by how o kind.Dir = if how.itself then own (prints (line o.name)) else list_directory how o

unfoldable pub list_operand : Listing → Operand → Tries
list_operand how o = do
  k ← at o.name (kind_at o.path)
  list_by how o k
