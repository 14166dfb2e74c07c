-- An index from directories to the paths under them.
--     is_parent p k        the path k stands right under p
--     has_child m p k      the index has k at p
--     IsIndex m t          m has at each p the keys of t that stand right under it, and nothing else
use Rattle.std.specs.Prelude.{◌≡◌, ℕ, Bool, false, ◌&&◌, List, Option, Some, None}
use Rattle.std.specs.Ordering.{nat_cmp}
use Rattle.std.specs.Str.{bytes_eq}
use Rattle.std.specs.Cmp.Lexicographic.{slice_cmp}
use Rattle.std.specs.BTreeMap as tree
use Rattle.std.specs.BTreeSet as set
use Rattle.std.specs.FinMap.{FinMap, contains_key}
use Rattle.em_path.specs.Paths.{parent_text}

abbrev pub is_text : Option (List ℕ) → List ℕ → Bool
is_text None p = false
is_text (Some q) p = bytes_eq q p

abbrev pub is_parent : List ℕ → List ℕ → Bool
is_parent p k = is_text (parent_text k) p

abbrev pub Children : Type 0
Children = tree.BTreeMap (List ℕ) (set.BTreeSet (List ℕ))

abbrev pub is_in : Option (set.BTreeSet (List ℕ)) → List ℕ → Bool
is_in None k = false
is_in (Some s) k = set.contains (slice_cmp nat_cmp) s k

abbrev pub has_child : Children → List ℕ → List ℕ → Bool
has_child m p k = is_in (tree.get (slice_cmp nat_cmp) m p) k

pub record IsIndex {X : Type 0} (m : Children) (t : FinMap (slice_cmp nat_cmp) X) : Type 0 where
  pub exact : (p k : List ℕ) → has_child m p k ≡ (is_parent p k && contains_key t k)
