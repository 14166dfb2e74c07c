-- cp [-f] [-r] and mv [-f], of one source. `deeper` is how what stands in a directory is copied.
use Rattle.std.specs.Prelude.{ℕ, zero, suc, ◌-◌, ◌==◌, ◌&&◌, ◌||◌, nat_eq, Bool, true, false, not, List, length, take, codes, Option, Some, None, Result, Ok, Err, if◌then◌else◌}
use Rattle.std.specs.List.{ends_with, suffix_len}
use Rattle.std.specs.Str.{bytes_eq}
use Rattle.em_path.specs.Paths.{last_of}
use Rattle.em_tree.specs.declared.node.Kind.{Kind}
use Rattle.em_tree.specs.declared.node.Kind.TheVariants as kind
use Rattle.em_view.specs.declared.no.FileNo.TheVariants as file
use Rattle.em_view.specs.declared.done.Done.{Done}
use Rattle.em_view.specs.Rows.{kind_at, link_at, names, content, stamp_at, put, place, make_link, remove}
use Rattle.em_view.specs.Steps.{Steps, done, refuse}
use Rattle.em_view.specs.Do.{◌>>=◌}
use Rattle.em_utility.specs.declared.reason.Reason.TheVariants as reason
use Rattle.em_utility.specs.declared.operand.OperandNo.{OperandNo}
use Rattle.em_utility.specs.Operands.{at, each, Tries}
use Rattle.em_fileutil.specs.declared.operand.Operand.{Operand}
use Rattle.em_fileutil.specs.declared.copy.Manner.{Manner}
use Rattle.em_fileutil.specs.declared.copy.Manner.TheVariants.{Copy, CopyTree, Move}
use Rattle.em_fileutil.specs.declared.copy.Target.{Target}
use Rattle.em_fileutil.specs.Spots.{operand_at, fault, told, child, is_within, gives, there, ending}
use Rattle.em_fileutil.specs.Making.{make_missing}
use Rattle.em_fileutil.specs.Linking.{clear}

unfoldable pub copy_file : Operand → Operand → Tries
copy_file s t = do
  bytes ← there s (content s.path)
  at t.name (put t.path bytes)

-- a file that is moved keeps its stamp
unfoldable pub move_file : Operand → Operand → Tries
move_file s t = do
  bytes ← there s (content s.path)
  stamp ← there s (stamp_at s.path)
  u ← at t.name (place t.path bytes stamp)
  at s.name (remove s.path)

-- how what stands in a directory is copied, from one operand to another
abbrev pub Deeper : Type 0
Deeper = Operand → Operand → Tries

abbrev pub copy_child : Deeper → Operand → Operand → List ℕ → Tries
copy_child deeper s t c = do
  from ← gives (child s c)
  to ← gives (child t c)
  deeper from to

abbrev pub leave_source : Manner → Operand → Tries
leave_source Move s = at s.name (remove s.path)
leave_source _ s = done tt

-- a directory: its target is made where nothing is; then what its names are, in order, whatever
-- faults that has. Where it is moved, it is removed in the end, which fails where something stayed
-- in it
unfoldable pub copy_tree : List ℕ → Deeper → Manner → Operand → Operand → Tries
copy_tree utility deeper manner s t = do
  u ← make_missing t.name t.path
  inside ← there s (names s.path)
  v ← ending (each utility (copy_child deeper s t) inside)
  leave_source manner s

abbrev pub copy_as_file : Manner → Operand → Operand → Tries
copy_as_file Move s t = move_file s t
copy_as_file _ s t = copy_file s t

-- a directory isn't copied without -r
abbrev pub recurs : Manner → Bool
recurs Copy = false
recurs CopyTree = true
recurs Move = true

abbrev pub copy_by : List ℕ → Deeper → Manner → Operand → Operand → Kind → Tries
copy_by utility deeper manner s t kind.Absent = refuse (told s file.Absent)
copy_by utility deeper manner s t kind.Link = refuse (told s file.Absent)
copy_by utility deeper manner s t kind.File = copy_as_file manner s t
copy_by utility deeper manner s t kind.Dir = if recurs manner then copy_tree utility deeper manner s t else refuse (told s file.IsDir)

unfoldable pub copy_node : List ℕ → Deeper → Manner → Operand → Operand → Tries
copy_node utility deeper manner s t = do
  k ← at s.name (kind_at s.path)
  copy_by utility deeper manner s t k

-- a link is made anew where the source goes, with a new stamp
unfoldable pub copy_link : Manner → Operand → Operand → List ℕ → Tries
copy_link manner s t text = do
  u ← clear t
  v ← at t.name (make_link t.path text)
  leave_source manner s

abbrev pub copy_past : List ℕ → Deeper → Manner → Operand → Operand → Option (List ℕ) → Tries
copy_past utility deeper manner s t (Some text) = copy_link manner s t text
copy_past utility deeper manner s t None = copy_node utility deeper manner s t

-- a source that may be a link
unfoldable pub copy_linked : List ℕ → Deeper → Manner → Operand → Operand → Tries
copy_linked utility deeper manner s t = do
  l ← at s.name (link_at s.path)
  copy_past utility deeper manner s t l

-- below the last level nothing has a path
abbrev pub copy_beneath : List ℕ → Manner → ℕ → Deeper
copy_beneath utility manner zero s t = refuse (fault s reason.BadPath)
copy_beneath utility manner (suc left) s t = copy_linked utility (copy_beneath utility manner left) manner s t

-- cp follows the links that its operands are; mv moves them
abbrev pub copy_top : List ℕ → Deeper → Manner → Operand → Operand → Tries
copy_top utility deeper Move s t = copy_linked utility deeper Move s t
copy_top utility deeper Copy s t = copy_node utility deeper Copy s t
copy_top utility deeper CopyTree s t = copy_node utility deeper CopyTree s t

-- ---- where to

-- a target that is no directory takes one source
abbrev pub as_name : Bool → Operand → Result Target OperandNo
as_name several o = if several then Err (told o file.NotDir) else Ok (record { operand = o; is_dir = false })

abbrev pub target_by : Bool → Operand → Kind → Result Target OperandNo
target_by several o kind.Dir = Ok (record { operand = o; is_dir = true })
target_by several o _ = as_name several o

-- the last operand: a directory, or, of one source, anything else
unfoldable pub target_at : List ℕ → Bool → List ℕ → Steps Done OperandNo Target
target_at cwd several name = do
  o ← gives (operand_at cwd name)
  k ← at o.name (kind_at o.path)
  gives (target_by several o k)

abbrev pub in_target : Operand → Operand → Option (List ℕ) → Result Operand OperandNo
in_target s t None = Err (fault s reason.SameFile)
in_target s t (Some last) = child t last

-- the name's last component is `.`, as in `src/.`
abbrev pub is_slash : ℕ → Bool
is_slash b = b == 47

abbrev pub unslashed : List ℕ → List ℕ
unslashed name = take (length name - suffix_len is_slash name) name

abbrev pub ends_with_dot : List ℕ → Bool
ends_with_dot name = bytes_eq (unslashed name) (codes ".") || ends_with nat_eq (unslashed name) (codes "/.")

-- in a directory a source keeps its last name, which the root has none of; of one that was named
-- with a `.` at the end, what is in it goes to the directory itself
abbrev pub place_of : Target → Operand → Result Operand OperandNo
place_of to s = if to.is_dir && not (ends_with_dot s.name) then in_target s to.operand (last_of s.path) else Ok to.operand

-- nothing is copied to itself or below itself
abbrev pub apart_by : Operand → Result Operand OperandNo → Result Operand OperandNo
apart_by s (Ok t) = if is_within s.path t.path then Err (fault s reason.SameFile) else Ok t
apart_by s (Err e) = Err e

abbrev pub destination : Target → Operand → Result Operand OperandNo
destination to s = apart_by s (place_of to s)
