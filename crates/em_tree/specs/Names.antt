-- Names of a directory.
--     IsNameList ns        each is one component, and they stand in strictly rising byte order
--     children_of t p      the keys right under p, in byte order
--     names_of t p         their last components; none unless p is a directory
use Rattle.std.specs.Prelude.{ℕ, ◌-◌, List, Option, Some, None, All, length, slice_get, filter_map}
use Rattle.std.specs.Ordering.{nat_cmp}
use Rattle.std.specs.Cmp.Lexicographic.{slice_cmp}
use Rattle.std.specs.List.{filter}
use Rattle.std.specs.List.Sorted.{IsStrictlySortedBy}
use Rattle.std.specs.FinMap.{FinMap, get, keys}
use Rattle.em_tree.specs.declared.node.Kind.{Kind}
use Rattle.em_tree.specs.declared.node.Kind.TheVariants as kind
use Rattle.em_path.specs.Paths.{IsComponent, last_of}
use Rattle.em_tree.specs.Trees.{Table, kind_of}
use Rattle.em_tree.specs.Index.{is_parent}

pub record IsNameList (ns : List (List ℕ)) : Type 0 where
  pub components : All IsComponent ns
  pub rising : IsStrictlySortedBy (slice_cmp nat_cmp) ns

abbrev pub last_name : List (List ℕ) → Option (List ℕ)
last_name ns = slice_get ns (length ns - 1)

abbrev pub children_of : {X : Type 0} → FinMap (slice_cmp nat_cmp) X → List ℕ → List (List ℕ)
children_of t p = filter (is_parent p) (keys t)

abbrev pub in_dir : Kind → List (List ℕ) → Option (List (List ℕ))
in_dir kind.Absent ns = None
in_dir kind.File ns = None
in_dir kind.Dir ns = Some ns
in_dir kind.Link ns = None

abbrev pub names_of : Table → List ℕ → Option (List (List ℕ))
names_of t p = in_dir (kind_of (get t p)) (filter_map last_of (children_of t p))
