-- mkdir, rmdir and touch, of one operand.
use Rattle.std.specs.Prelude.{ℕ, zero, suc, Bool, List, [], Option, Some, None, if◌then◌else◌}
use Rattle.em_path.specs.Paths.{parent_text}
use Rattle.em_tree.specs.declared.node.Kind.{Kind}
use Rattle.em_tree.specs.declared.node.Kind.TheVariants as kind
use Rattle.em_view.specs.declared.no.FileNo.TheVariants as file
use Rattle.em_view.specs.Rows.{kind_at, link_at, make_dir, remove, put, touch}
use Rattle.em_view.specs.Steps.{done, refuse}
use Rattle.em_view.specs.Do.{◌>>=◌}
use Rattle.em_utility.specs.declared.reason.Reason.TheVariants as reason
use Rattle.em_utility.specs.declared.operand.OperandNo.TheVariants.{Fault}
use Rattle.em_utility.specs.Operands.{at, Tries}
use Rattle.em_fileutil.specs.declared.operand.Operand.{Operand}
use Rattle.em_fileutil.specs.Spots.{told, levels}

abbrev pub make_by : List ℕ → List ℕ → Kind → Tries
make_by name p kind.Absent = at name (make_dir p)
make_by name p kind.File = refuse (Fault name (reason.File file.NotDir))
make_by name p kind.Dir = done tt
make_by name p kind.Link = done tt

-- a directory that isn't there is made; the faults are those of the name
unfoldable pub make_missing : List ℕ → List ℕ → Tries
make_missing name p = do
  k ← at name (kind_at p)
  make_by name p k

abbrev pub make_under : Option (List ℕ) → (List ℕ → Tries) → List ℕ → List ℕ → Tries
make_under None above name p = done tt
make_under (Some parent) above name p = do
  u ← above parent
  make_missing name p

-- each directory of a path that isn't there is made, the topmost first
abbrev pub make_all : ℕ → List ℕ → List ℕ → Tries
make_all zero name p = done tt
make_all (suc left) name p = make_under (parent_text p) (make_all left name) name p

-- mkdir [-p]
abbrev pub make_directory : Bool → Operand → Tries
make_directory parents o = if parents then make_all levels o.name o.path else at o.name (make_dir o.path)

abbrev pub remove_directory_by : Operand → Kind → Tries
remove_directory_by o kind.File = refuse (told o file.NotDir)
remove_directory_by o kind.Link = refuse (told o file.NotDir)
remove_directory_by o _ = at o.name (remove o.path)

unfoldable pub remove_other_directory : Operand → Tries
remove_other_directory o = do
  k ← at o.name (kind_at o.path)
  remove_directory_by o k

-- a link is no directory, whatever it leads to
abbrev pub remove_directory_past : Operand → Option (List ℕ) → Tries
remove_directory_past o (Some text) = refuse (told o file.NotDir)
remove_directory_past o None = remove_other_directory o

-- rmdir
unfoldable pub remove_directory : Operand → Tries
remove_directory o = do
  l ← at o.name (link_at o.path)
  remove_directory_past o l

abbrev pub touch_absent : Bool → Operand → Tries
touch_absent create o = if create then at o.name (put o.path []) else done tt

abbrev pub touch_by : Bool → Operand → Kind → Tries
touch_by create o kind.Absent = touch_absent create o
touch_by create o _ = at o.name (touch o.path)

-- touch [-c]: with -c nothing is made
unfoldable pub touch_operand : Bool → Operand → Tries
touch_operand create o = do
  k ← at o.name (kind_at o.path)
  touch_by create o k
