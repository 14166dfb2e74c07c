-- Words of the laws on file utilities: what they come to, from a workspace on a state. An operand
-- is its name with its path.
use Rattle.std.specs.Prelude.{◌≡◌, ◌≢◌, ◌≤◌, ◌++◌, All, ℕ, Bool, true, List, Result, Option, Some, None, if◌then◌else◌}
use Rattle.std.specs.FinMap.{get}
use Rattle.em_tree.specs.declared.state.State.{State}
use Rattle.em_tree.specs.declared.node.Kind.{Kind}
use Rattle.em_tree.specs.declared.node.Kind.TheVariants as kind
use Rattle.em_tree.specs.Trees.{Table, IsTree, kind_of, stamp_of}
use Rattle.em_path.specs.Paths.{IsComponent, path_text, components, child_text, last_of}
use Rattle.em_path.specs.Reading.{resolved_text}
use Rattle.em_view.specs.declared.done.Done.{Done}
use Rattle.em_view.specs.Actions.{Workspace, snapshot}
use Rattle.em_view.specs.Held.{NamesPaths}
use Rattle.em_view.specs.Rows.{change_number}
use Rattle.em_utility.specs.declared.operand.OperandNo.{OperandNo}
use Rattle.em_fileutil.specs.Removing.{remove_beneath}
use Rattle.em_fileutil.specs.Copying.{copy_file, move_file, ends_with_dot}
use Rattle.em_fileutil.specs.Making.{make_directory, remove_directory, touch_operand}
use Rattle.em_laws.specs.Nodes.{tree_seen, AreAlike}

abbrev pub Ran : Type 0
Ran = Result (Unit {0} × Done) (OperandNo × Done) × Workspace

-- rm, of what stands at the path p; n is how many levels below it are gone down
abbrev pub removed : State → Workspace → Done → Bool → Bool → ℕ → List ℕ → List ℕ → Ran
removed s w d force recursive n name p =
    remove_beneath (record { force = force; recursive = recursive }) n (record { name = name; path = p }) d (snapshot s) w

-- cp of the file at p to q
abbrev pub copied : State → Workspace → Done → List ℕ → List ℕ → List ℕ → List ℕ → Ran
copied s w d from to p q = copy_file (record { name = from; path = p }) (record { name = to; path = q }) d (snapshot s) w

-- mv of the file at p to q
abbrev pub moved : State → Workspace → Done → List ℕ → List ℕ → List ℕ → List ℕ → Ran
moved s w d from to p q = move_file (record { name = from; path = p }) (record { name = to; path = q }) d (snapshot s) w

-- touch of what stands at p
abbrev pub touched : State → Workspace → Done → Bool → List ℕ → List ℕ → Ran
touched s w d create name p = touch_operand create (record { name = name; path = p }) d (snapshot s) w

-- rmdir of the directory at p
abbrev pub unmade : State → Workspace → Done → List ℕ → List ℕ → Ran
unmade s w d name p = remove_directory (record { name = name; path = p }) d (snapshot s) w

-- no stamp is above the number of the last change
abbrev pub AreOld : State → Workspace → Type 0
AreOld s w = (q : List ℕ) (n : ℕ) → stamp_of (get (tree_seen s w) q) ≡ Some n → n ≤ change_number w.base w.job w.count

-- the state has a tree, and so it has with the changes, which are of paths
abbrev pub AreWhole : State → Workspace → Type 0
AreWhole s w = IsTree s.tree × IsTree (tree_seen s w) × NamesPaths w.changes

-- ---- cp -r

-- the path that these components lead to from another
abbrev pub under : List ℕ → List (List ℕ) → List ℕ
under p rel = path_text (components p ++ rel)

-- the path itself, or one below it
abbrev pub IsUnder : List ℕ → List ℕ → Type 0
IsUnder p k = (rel : List (List ℕ)) × All IsComponent rel × (k ≡ under p rel)

-- the name that a source keeps in a directory; one that was named with a `.` at the end keeps none
abbrev pub name_kept : List ℕ → Option (List ℕ) → Option (List ℕ)
name_kept from last = if ends_with_dot from then None else last

-- where `cp` puts a source: in a directory under the name that it keeps, else at the operand itself
abbrev pub target_of : Kind → Option (List ℕ) → List ℕ → List ℕ
target_of kind.Dir (Some last) to = child_text to last
target_of _ _ to = to

abbrev pub target : State → Workspace → List ℕ → List ℕ → List ℕ → List ℕ
target s w cwd from to =
    target_of (kind_of (get (tree_seen s w) (resolved_text cwd to))) (name_kept from (last_of (resolved_text cwd from))) (resolved_text cwd to)

-- what stood at p and below it stands at q and below it, beside what stood only there; the rest is
-- as it was
pub record IsCopied (before after : Table) (p q : List ℕ) : Type 0 where
  pub copied : (rel : List (List ℕ)) → All IsComponent rel → kind_of (get before (under p rel)) ≢ kind.Absent →
      AreAlike (get before (under p rel)) (get after (under q rel))
  pub kept : (rel : List (List ℕ)) → All IsComponent rel → kind_of (get before (under p rel)) ≡ kind.Absent →
      AreAlike (get before (under q rel)) (get after (under q rel))
  pub others : (k : List ℕ) → ¬ IsUnder q k → AreAlike (get before k) (get after k)

-- ---- mkdir -p

abbrev pub made_all : State → Workspace → Done → List ℕ → List ℕ → Ran
made_all s w d name p = make_directory true (record { name = name; path = p }) d (snapshot s) w

-- the path is this one, or one above it
abbrev pub IsOver : List ℕ → List ℕ → Type 0
IsOver p k = (front rest : List (List ℕ)) × (components p ≡ front ++ rest) × (k ≡ path_text front)
