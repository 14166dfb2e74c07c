-- What a desk keeps.
use Rattle.std.specs.Prelude.{ℕ, ◌+◌, ◌^◌, ◌≤◌, ◌≡◌, List, IsSome, Some, None}
use Rattle.std.specs.FinMap.{get}
use Rattle.em_path.specs.Paths.{IsPath, parent_text}
use Rattle.em_tree.specs.declared.question.Entry.{Entry}
use Rattle.em_tree.specs.declared.state.State.{State}
use Rattle.em_tree.specs.Answers.{Agrees}
use Rattle.em_tree.specs.Trees.{Changes, IsTree, kind_of, laid_over}
use Rattle.em_tree.specs.declared.node.Kind.{Kind}
use Rattle.em_view.specs.Performs.{DeskState}

-- laid over the tree of each state that agrees with what was answered, the changes give a tree
abbrev pub Fits : List Entry → Changes → Type 0
Fits usage changes = (s : State) → IsTree s.tree → Agrees s usage → IsTree (laid_over changes s.tree)

-- what the changes name are paths
abbrev pub NamesPaths : Changes → Type 0
NamesPaths changes = (p : List ℕ) → IsSome (get changes p) → IsPath p

-- numbers of changes stay below 2^63, and each change cost a unit of fuel
pub record IsSound (greatest given fuel count : ℕ) (usage : List Entry) (changes : Changes) : Type 0 where
  pub base : greatest ≤ 2 ^ 62
  pub small : given ≤ 10000000
  pub room : count + fuel ≤ given
  pub fits : Fits usage changes
  pub paths : NamesPaths changes

abbrev pub IsSoundDesk : {V : Type 0} → DeskState V → Type 0
IsSoundDesk d = IsSound d.work.base d.work.given d.work.fuel d.work.count d.usage d.work.changes

-- on each state that agrees the path is of this kind, under the changes
abbrev pub IsSeen : {V : Type 0} → DeskState V → List ℕ → Kind → Type 0
IsSeen d p k = (s : State) → IsTree s.tree → Agrees s d.usage → kind_of (get (laid_over d.work.changes s.tree) p) ≡ k

-- on each state that agrees something stands at the path, and nothing under it
abbrev pub MayGo : {V : Type 0} → DeskState V → List ℕ → Type 0
MayGo d p = (s : State) → IsTree s.tree → Agrees s d.usage → IsSome (get (laid_over d.work.changes s.tree) p) × ((q : List ℕ) → parent_text q ≡ Some p → get (laid_over d.work.changes s.tree) q ≡ None)
