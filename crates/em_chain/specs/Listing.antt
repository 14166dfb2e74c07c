-- The names right under a path, as a table's changes go by.
--     IsListing p t ns      ns are the names that t has right under p, whatever stands at p
--     changed_by c q t      t where q becomes what is said of it, if something is
--     changed_at f qs t     t where the paths qs become what f says
--     names_told a          the names of an answer
use Rattle.std.specs.Prelude.{◌≡◌, ℕ, map, List, [], ◌∷◌, Option, Some, None}
use Rattle.em_path.specs.Paths.{child_text}
use Rattle.em_tree.specs.declared.node.Node.{Node}
use Rattle.em_tree.specs.declared.question.Answer.{Answer}
use Rattle.em_tree.specs.declared.question.Answer.TheVariants as told
use Rattle.em_tree.specs.Names.{IsNameList, children_of}
use Rattle.em_tree.specs.Trees.{Table, changed}

pub record IsListing (p : List ℕ) (t : Table) (ns : List (List ℕ)) : Type 0 where
  pub names : IsNameList ns
  pub children : children_of t p ≡ map (child_text p) ns

abbrev pub changed_by : Option (Option Node) → List ℕ → Table → Table
changed_by None q t = t
changed_by (Some c) q t = changed t q c

abbrev pub changed_at : (List ℕ → Option (Option Node)) → List (List ℕ) → Table → Table
changed_at f [] t = t
changed_at f (q ∷ qs) t = changed_at f qs (changed_by (f q) q t)

abbrev pub names_told : Answer → Option (List (List ℕ))
names_told (told.Names ns) = ns
names_told _ = None
