-- Words of the laws on changes of a tree.
use Rattle.std.specs.Prelude.{◌≡◌, ◌≢◌, ℕ, false, List, Option, None}
use Rattle.std.specs.FinMap.{get}
use Rattle.em_tree.specs.declared.node.Kind.TheVariants as kind
use Rattle.em_tree.specs.declared.node.Node.{Node}
use Rattle.em_tree.specs.declared.state.State.{State}
use Rattle.em_tree.specs.Trees.{Table, kind_of, content_of, laid_over}
use Rattle.em_tree.specs.Resolving.{on_way, links_in}
use Rattle.em_view.specs.Actions.{Workspace}

-- the tree that a job sees: that of the state with its own changes laid over it
abbrev pub tree_seen : State → Workspace → Table
tree_seen s w = laid_over w.changes s.tree

-- no symbolic link is seen
abbrev pub HasNoLinks : State → Workspace → Type 0
HasNoLinks s w = (q : List ℕ) → kind_of (get (tree_seen s w) q) ≢ kind.Link

-- no directory above the path is a link
abbrev pub HasNoLinksAbove : State → Workspace → List ℕ → Type 0
HasNoLinksAbove s w p = on_way (links_in (tree_seen s w)) false p ≡ None

-- of the same kind, with the same bytes
abbrev pub AreAlike : Option Node → Option Node → Type 0
AreAlike a b = (kind_of a ≡ kind_of b) × (content_of a ≡ content_of b)

abbrev pub OthersStay : List ℕ → Table → Table → Type 0
OthersStay p before after = (q : List ℕ) → q ≢ p → AreAlike (get before q) (get after q)
