-- Tables and trees of nodes.
--     Table, Changes        finite maps from path texts, to nodes and to what paths become, in byte order of the texts
--     kind_of, stamp_of, content_of, link_of      what stands at a path; no link is followed
--     IsTree t              the root is a directory, and so is the parent of every other path
--     base_of t             the greatest stamp
--     laid_over d t         t with each path that d names as d says
use Rattle.std.specs.Prelude.{◌≡◌, ℕ, List, [], ◌∷◌, Option, Some, None, IsSome, max}
use Rattle.std.specs.Ordering.{nat_cmp}
use Rattle.std.specs.Cmp.Lexicographic.{slice_cmp}
use Rattle.std.specs.FinMap.{FinMap, get, insert, remove, entries, values}
use Rattle.em_tree.specs.declared.node.Kind.{Kind}
use Rattle.em_tree.specs.declared.node.Kind.TheVariants as kind
use Rattle.em_tree.specs.declared.node.Node.{Node}
use Rattle.em_tree.specs.declared.node.Node.TheVariants.{File, Dir, Link}
use Rattle.em_path.specs.Paths.{IsPath, root_text, parent_text}

abbrev pub Table : Type 0
Table = FinMap (slice_cmp nat_cmp) Node

-- what paths become: a node, or absent
abbrev pub Changes : Type 0
Changes = FinMap (slice_cmp nat_cmp) (Option Node)

abbrev pub kind_of : Option Node → Kind
kind_of None = kind.Absent
kind_of (Some (File body stamp)) = kind.File
kind_of (Some (Dir stamp)) = kind.Dir
kind_of (Some (Link text stamp)) = kind.Link

abbrev pub stamp_in : Node → ℕ
stamp_in (File body stamp) = stamp
stamp_in (Dir stamp) = stamp
stamp_in (Link text stamp) = stamp

abbrev pub stamp_of : Option Node → Option ℕ
stamp_of None = None
stamp_of (Some n) = Some (stamp_in n)

abbrev pub content_of : Option Node → Option (List ℕ)
content_of None = None
content_of (Some (File body stamp)) = Some body
content_of (Some (Dir stamp)) = None
content_of (Some (Link text stamp)) = None

abbrev pub link_of : Option Node → Option (List ℕ)
link_of None = None
link_of (Some (File body stamp)) = None
link_of (Some (Dir stamp)) = None
link_of (Some (Link text stamp)) = Some text

pub record IsTree (t : Table) : Type 0 where
  pub root : kind_of (get t root_text) ≡ kind.Dir
  pub paths : (p : List ℕ) → IsSome (get t p) → IsPath p
  pub parents : (p q : List ℕ) → IsSome (get t p) → parent_text p ≡ Some q → kind_of (get t q) ≡ kind.Dir

-- the greatest stamp, 0 where there is none
abbrev pub greatest : List Node → ℕ
greatest [] = 0
greatest (n ∷ ns) = max (stamp_in n) (greatest ns)

abbrev pub base_of : Table → ℕ
base_of t = greatest (values t)

-- the path becomes the node, or absent
abbrev pub changed : Table → List ℕ → Option Node → Table
changed t p None = remove t p
changed t p (Some n) = insert t p n

abbrev pub changed_all : List (List ℕ × Option Node) → Table → Table
changed_all [] t = t
changed_all (c ∷ cs) t = changed (changed_all cs t) c.0 c.1

abbrev pub laid_over : Changes → Table → Table
laid_over d t = changed_all (entries d) t
