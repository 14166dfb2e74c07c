-- The names of a directory under a job's own changes.
--     with_own d p ns      the names of the directory p, with the children that the changes put there and without those that they took
--     names_size ns        how many bytes the names have
use Rattle.std.specs.Prelude.{ℕ, List, [], ◌∷◌, Option, Some, None, length, map, sum}
use Rattle.std.specs.Ordering.{nat_cmp}
use Rattle.std.specs.Cmp.Lexicographic.{slice_cmp}
use Rattle.std.specs.FinMap.{get}
use Rattle.std.specs.BTreeSet.{insert_key}
use Rattle.std.specs.Set.{remove_key}
use Rattle.std.specs.BTreeMap.{is_at}
use Rattle.em_path.specs.Paths.{last_of}
use Rattle.em_tree.specs.declared.node.Node.{Node}
use Rattle.em_tree.specs.Trees.{Changes}
use Rattle.em_tree.specs.Names.{children_of}

-- one path that the changes name: where it becomes a node its last component is put among the
-- names, in their order, else taken out
abbrev pub amended : Option (Option Node) → Option (List ℕ) → List (List ℕ) → List (List ℕ)
amended (Some (Some n)) (Some name) ns = insert_key (slice_cmp nat_cmp) ns name
amended (Some None) (Some name) ns = remove_key (is_at (slice_cmp nat_cmp name)) ns
amended _ _ ns = ns

abbrev pub amended_all : Changes → List (List ℕ) → List (List ℕ) → List (List ℕ)
amended_all d [] ns = ns
amended_all d (q ∷ qs) ns = amended_all d qs (amended (get d q) (last_of q) ns)

abbrev pub with_own : Changes → List ℕ → List (List ℕ) → List (List ℕ)
with_own d p ns = amended_all d (children_of d p) ns

abbrev pub names_size : Option (List (List ℕ)) → ℕ
names_size None = 0
names_size (Some ns) = sum (map length ns)
