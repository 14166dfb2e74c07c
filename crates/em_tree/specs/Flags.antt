-- A flag that is raised where a link may be.
--     HasNone t, MakesNone d      no link in a table, among changes
use Rattle.std.specs.Prelude.{◌≡◌, ℕ, Bool, false, List, Option, Some, None}
use Rattle.std.specs.FinMap.{get}
use Rattle.em_tree.specs.declared.node.Node.{Node}
use Rattle.em_tree.specs.Trees.{Table, Changes, link_of}

abbrev pub HasNone : Table → Type 0
HasNone t = (p : List ℕ) → link_of (get t p) ≡ None

abbrev pub link_made : Option (Option Node) → Option (List ℕ)
link_made None = None
link_made (Some n) = link_of n

abbrev pub MakesNone : Changes → Type 0
MakesNone d = (p : List ℕ) → link_made (get d p) ≡ None

-- the flag need not go down where the last link goes
pub record IsFlag (linked : Bool) (t : Table) : Type 0 where
  pub none : linked ≡ false → HasNone t

pub record IsMark (linked : Bool) (d : Changes) : Type 0 where
  pub none : linked ≡ false → MakesNone d
