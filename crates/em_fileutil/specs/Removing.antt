-- rm [-f] [-r], of one operand. `deeper` is how what stands in a directory is removed.
use Rattle.std.specs.Prelude.{ℕ, zero, suc, Bool, List, codes, Option, Some, None, Result, Ok, Err, if◌then◌else◌}
use Rattle.em_tree.specs.declared.node.Kind.{Kind}
use Rattle.em_tree.specs.declared.node.Kind.TheVariants as kind
use Rattle.em_view.specs.declared.no.FileNo.TheVariants as file
use Rattle.em_view.specs.Rows.{kind_at, link_at, names, remove}
use Rattle.em_view.specs.Steps.{refuse}
use Rattle.em_view.specs.Do.{◌>>=◌}
use Rattle.em_utility.specs.declared.reason.Reason.TheVariants as reason
use Rattle.em_utility.specs.declared.operand.OperandNo.{OperandNo}
use Rattle.em_utility.specs.Operands.{at, each, Tries}
use Rattle.em_fileutil.specs.declared.operand.Operand.{Operand}
use Rattle.em_fileutil.specs.declared.remove.Removal.{Removal}
use Rattle.em_fileutil.specs.Spots.{fault, told, child, gives, there, ending}

abbrev pub remove_child : (Operand → Tries) → Operand → List ℕ → Tries
remove_child deeper o c = do
  inside ← gives (child o c)
  deeper inside

-- a directory: first what its names are, in order, whatever faults that has; then itself
unfoldable pub remove_tree : (Operand → Tries) → Operand → Tries
remove_tree deeper o = do
  inside ← there o (names o.path)
  u ← ending (each (codes "rm") (remove_child deeper o) inside)
  at o.name (remove o.path)

-- what is absent is a fault, unless with -f
abbrev pub absent : Bool → Operand → Result (Unit {0}) OperandNo
absent force o = if force then Ok tt else Err (told o file.Absent)

abbrev pub remove_by : (Operand → Tries) → Removal → Operand → Kind → Tries
remove_by deeper how o kind.Absent = gives (absent how.force o)
remove_by deeper how o kind.File = at o.name (remove o.path)
remove_by deeper how o kind.Link = at o.name (remove o.path)
remove_by deeper how o kind.Dir = if how.recursive then remove_tree deeper o else refuse (told o file.IsDir)

unfoldable pub remove_other : (Operand → Tries) → Removal → Operand → Tries
remove_other deeper how o = do
  k ← at o.name (kind_at o.path)
  remove_by deeper how o k

-- a link goes, whatever it leads to
abbrev pub remove_past : (Operand → Tries) → Removal → Operand → Option (List ℕ) → Tries
remove_past deeper how o (Some text) = at o.name (remove o.path)
remove_past deeper how o None = remove_other deeper how o

unfoldable pub remove_node : (Operand → Tries) → Removal → Operand → Tries
remove_node deeper how o = do
  l ← at o.name (link_at o.path)
  remove_past deeper how o l

-- below the last level nothing has a path
abbrev pub remove_beneath : Removal → ℕ → Operand → Tries
remove_beneath how zero o = refuse (fault o reason.BadPath)
remove_beneath how (suc left) o = remove_node (remove_beneath how left) how o
