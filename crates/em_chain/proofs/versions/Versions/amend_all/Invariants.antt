use Rattle.std.proofs.Common.{◌≡◌, List, ℕ, Some}
use Rattle.std.specs.List.{AllByRecursion}
use Rattle.em_path.specs.Paths.{parent_text}
use Rattle.em_tree.specs.Names.{IsNameList}
use Rattle.em_tree.specs.Trees.{Table}
use Rattle.em_chain.specs.Floors.{change_over}
use Rattle.em_chain.specs.Listing.{IsListing, changed_at}
use Rattle.em_chain.proofs.versions.Versions.amend_all.Given as goal

abbrev pub invariant-loop-path : goal.invariant-loop-path
invariant-loop-path l = IsNameList l.set.keys × ((p : List ℕ) (t : Table) → AllByRecursion (λ q. parent_text q ≡ Some p) l.fn.paths → IsListing p t l.initial.set.keys
    → (u : Table) × (changed_at (change_over l.self l.job) l.path-iterator u ≡ changed_at (change_over l.self l.job) l.fn.paths t) × AllByRecursion (λ q. parent_text q ≡ Some p) l.path-iterator × IsListing p u l.set.keys)
