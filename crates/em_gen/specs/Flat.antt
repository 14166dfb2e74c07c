-- A tree in which the root alone is a directory.
use Rattle.std.specs.Prelude.{◌≡◌, ℕ, List}
use Rattle.std.specs.FinMap.{get}
use Rattle.em_path.specs.Paths.{root_text}
use Rattle.em_tree.specs.declared.node.Kind.TheVariants as kind
use Rattle.em_tree.specs.Trees.{Table, IsTree, kind_of}

pub record IsFlat (t : Table) : Type 0 where
  pub tree : IsTree t
  pub only : (p : List ℕ) → kind_of (get t p) ≡ kind.Dir → p ≡ root_text
