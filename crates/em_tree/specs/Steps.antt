-- The steps in which a delta is laid.
use Rattle.std.specs.Prelude.{◌≡◌, ℕ, List, Option, Some, None, IsSome, map}
use Rattle.std.specs.Ordering.{nat_cmp}
use Rattle.std.specs.Cmp.Lexicographic.{slice_cmp}
use Rattle.std.specs.Borrow.{Bor}
use Rattle.std.specs.FinMap.{find, get}
use Rattle.em_tree.specs.declared.node.Node.{Node}
use Rattle.em_tree.specs.declared.index.Place.{Place}
use Rattle.em_tree.specs.declared.lay.Step.{Step}
use Rattle.em_tree.specs.Trees.{Table}

-- the changes that the steps make
abbrev pub changes_of : List Step → List (List ℕ × Option Node)
changes_of steps = map (λ s. (s.place.path, s.becomes)) steps

-- the changes that take paths out again
abbrev pub removals : List (Bor Place) → List (List ℕ × Option Node)
removals places = map (λ p. (p.now.path, None)) places

-- each path that becomes a node has one already
abbrev pub HasRoom : List (List ℕ × Option Node) → Table → Type 0
HasRoom cs t = (q : List ℕ) (n : Node) → find (slice_cmp nat_cmp) q cs ≡ Some (Some n) → IsSome (get t q)
