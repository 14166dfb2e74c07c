-- What is read in order, each node in a directory read before, is a tree, and each tree is read so.
use Rattle.std.proofs.Common.{◌≡◌, ℕ, true, false, ◌⊎◌, inl, inr, List, [], ◌∷◌, ◌++◌, length, take, Option, Some, None, refl, sym, ap, subst, ◌∙◌, append_assoc, append-nil, arith}
use Rattle.std.specs.Prelude.{T, IsSome}
use Rattle.std.specs.List.{flat_map, AllByRecursion}
use Rattle.std.specs.declared.cmp.Ordering.TheVariants.{Less, Equal}
use Rattle.std.specs.Ordering.{is_lt}
use Rattle.std.specs.Cmp.{tied_itself}
use Rattle.std.specs.FinMap.{entries, get, insert, empty, find, is_sorted, entries_sorted, get-entries, get-empty, get-insert, len-entries, len-empty, same_entries_map}
use Rattle.std.specs.FinMap.Entries.{below_all}
use Rattle.std.proofs.lemmas.List.Concat.{flat_map-cons}
use Rattle.std.proofs.lemmas.Grind.{flat_map-append}
use Rattle.std.proofs.lemmas.List.Elements.{recursion_from_All, All-from_recursion}
use Rattle.std.proofs.lemmas.List.{nil_from_length}
use Rattle.em_path.specs.Paths.{IsPath, IsComponent, components, path_text, root_text, parent_text, parent_of}
use Rattle.em_tree.specs.declared.node.Kind.TheVariants as kind
use Rattle.em_tree.specs.declared.node.Node.{Node}
use Rattle.em_tree.specs.declared.node.Node.TheVariants.{File, Dir, Link}
use Rattle.em_tree.specs.Trees.{Table, IsTree, kind_of}
use Rattle.em_image.specs.Image.{Limits}
use Rattle.em_image.specs.Reading.{has_dir, is_dir}
use Rattle.em_image.proofs.Order.{cmp, total, less_is, T_of, T_both, T_and, AllBelow, IsLast, entries_push, last_push, get_above, get_kept, get_new, find_below, find_front, lower, sorted_rest, found_itself, prefix_less}
use Rattle.em_image.proofs.Chain.{Entry, Kept, Joins, Follows, insert_all}

-- ---- a directory

dir_is : (o : Option Node) → is_dir o ≡ true → kind_of o ≡ kind.Dir
dir_is None e = absurd cc
dir_is (Some (File body stamp)) e = absurd cc
dir_is (Some (Dir stamp)) e = refl
dir_is (Some (Link text stamp)) e = absurd cc

pub is_a_dir : (o : Option Node) → kind_of o ≡ kind.Dir → is_dir o ≡ true
is_a_dir None e = absurd cc
is_a_dir (Some (File body stamp)) e = absurd cc
is_a_dir (Some (Dir stamp)) e = refl
is_a_dir (Some (Link text stamp)) e = absurd cc

dir_some : (o : Option Node) → kind_of o ≡ kind.Dir → IsSome o
dir_some None e = absurd cc
dir_some (Some n) e = refl

-- ---- what was read is a tree

-- the entries behind those of t, in a tree
pub record Grown (t : Table) (es : List Entry) (u : Table) : Type 0 where
  pub tree : IsTree u
  pub entries : entries u ≡ entries t ++ es

parent_is_dir : (t : Table) (p q : List ℕ) → has_dir t (parent_text p) ≡ true → parent_text p ≡ Some q → kind_of (get t q) ≡ kind.Dir
parent_is_dir t p q h e = dir_is (get t q) (rw e at h)

-- the parent of what was put into a tree is one of its directories
pub home_of : (t : Table) (p q : List ℕ) (n : Node) → IsTree (insert t p n) → parent_text p ≡ Some q → has_dir (insert t p n) (Some q) ≡ true
home_of t p q n tree up =
    let here : IsSome (get (insert t p n) p) = rw (get-insert total t p n p, tied_itself total p) refl in
    is_a_dir (get (insert t p n) q) (tree.parents p q here up)

-- a node that joins a tree makes a tree
pub joined_tree : (l : Limits) (last : List ℕ) (t : Table) (e : Entry) → IsTree t → AllBelow e.0 (entries t) → Joins l last t e → IsTree (insert t e.0 e.1)
joined_tree l last t e tree below j =
    let k = e.0 in
    let none : get t k ≡ None = get_above t k below in
    let stays : (q : List ℕ) → kind_of (get t q) ≡ kind.Dir → kind_of (get (insert t k e.1) q) ≡ kind.Dir = λ q d. rw (get_kept t k q e.1 none (dir_some (get t q) d)) d in
    record {
      root = stays root_text tree.root;
      paths = λ p some. elim (get_new t k p e.1 some) [ inl same ↦ rw same j.path | inr old ↦ tree.paths p old ];
      parents = λ p q some up. stays q (elim (get_new t k p e.1 some) [ inl same ↦ parent_is_dir t k q j.parent (rw same at up) | inr old ↦ tree.parents p q old up ]);
    }

pub grown : (l : Limits) (last : List ℕ) (t : Table) (es : List Entry) → IsTree t → IsLast last t → Follows l last t es → Grown t es (insert_all t es)
grown l last t [] tree is-last f = record { tree = tree; entries = sym (append-nil (entries t)) }
grown l last t (e ∷ es) tree is-last f =
    let below : AllBelow e.0 (entries t) = is-last e.0 (less_is _ f.0.after) in
    let more = grown l e.0 (insert t e.0 e.1) es (joined_tree l last t e tree below f.0) (last_push t e.0 e.1 below) f.1 in
    record { tree = more.tree; entries = more.entries ∙ ap (λ (fs : List Entry). fs ++ es) (entries_push t e.0 e.1 below) ∙ append_assoc (entries t) (e ∷ []) es }

-- ---- paths and their parents

-- all but the last, and the last
front_last : (c : List ℕ) (cs : List (List ℕ)) → (d : List ℕ) × (c ∷ cs ≡ take (length cs) (c ∷ cs) ++ d ∷ [])
front_last c [] = (c, refl)
front_last c (x ∷ cs) = let r = front_last x cs in (r.0, ap (λ (ds : List (List ℕ)). c ∷ ds) r.1)

abbrev behind : List ℕ → List ℕ
behind d = 47 ∷ d

flat_last : (cs : List (List ℕ)) (d : List ℕ) → flat_map behind (cs ++ d ∷ []) ≡ flat_map behind cs ++ 47 ∷ d
flat_last cs d = flat_map-append behind cs (d ∷ []) ∙ ap (λ (r : List ℕ). flat_map behind cs ++ r) (flat_map-cons behind d [] ∙ append-nil (behind d))

some_is : (x y : List ℕ) → Some x ≡ Some y → x ≡ y
some_is x y e = cc

filled_less : (c : List ℕ) (rest : List ℕ) → IsComponent c → cmp root_text (47 ∷ (c ++ rest)) ≡ Less
filled_less [] rest h = absurd (h.filled refl)
filled_less (x ∷ c) rest h = refl

-- the root is below each other path
pub root_first : (p : List ℕ) → IsPath p → (p ≡ root_text) ⊎ (cmp root_text p ≡ Less)
root_first p h = by (components p) h.spelled (recursion_from_All IsComponent (components p) h.names)
  where
    by : (cs : List (List ℕ)) → p ≡ path_text cs → AllByRecursion IsComponent cs → (p ≡ root_text) ⊎ (cmp root_text p ≡ Less)
    by [] e a = inl e
    by (c ∷ cs) e a = inr (subst (λ t. cmp root_text t ≡ Less) (sym (e ∙ flat_map-cons behind c cs)) (filled_less c (flat_map behind cs) a.0))

-- a path's parent is below it
pub parent_less : (p q : List ℕ) → IsPath p → parent_text p ≡ Some q → cmp q p ≡ Less
parent_less p q h up = by (components p) h.spelled (recursion_from_All IsComponent (components p) h.names) up
  where
    by : (cs : List (List ℕ)) → p ≡ path_text cs → AllByRecursion IsComponent cs → parent_of cs ≡ Some q → cmp q p ≡ Less
    by [] e a up = absurd cc
    by (c ∷ []) e a up =
        let root : root_text ≡ q = some_is root_text q up in
        rw (← root) (subst (λ t. cmp root_text t ≡ Less) (sym (e ∙ flat_map-cons behind c [])) (filled_less c [] a.0))
    by (c ∷ x ∷ cs) e a up =
        let f = front_last c (x ∷ cs) in
        let front : flat_map behind (take (length (x ∷ cs)) (c ∷ x ∷ cs)) ≡ q = some_is _ q up in
        let longer : p ≡ q ++ 47 ∷ f.0 = e ∙ ap (flat_map behind) f.1 ∙ flat_last (take (length (x ∷ cs)) (c ∷ x ∷ cs)) f.0 ∙ ap (λ (t : List ℕ). t ++ 47 ∷ f.0) front in
        subst (λ t. cmp q t ≡ Less) (sym longer) (prefix_less q 47 f.0)

-- a path with no parent is the root
pub no_parent : (p : List ℕ) → IsPath p → parent_text p ≡ None → p ≡ root_text
no_parent p h up = by (components p) h.spelled up
  where
    by : (cs : List (List ℕ)) → p ≡ path_text cs → parent_of cs ≡ None → p ≡ root_text
    by [] e up = e
    by (c ∷ cs) e up = absurd cc

-- ---- each tree is read

-- the entries es of a tree, behind those that make m
pub record Split (t m : Table) (pre es : List Entry) (last : List ℕ) : Type 0 where
  pub whole : entries t ≡ pre ++ es
  pub front : entries m ≡ pre
  pub is_last : IsLast last m
  pub rises : T (below_all cmp last es)
  pub above_root : T (below_all cmp root_text es)

is_here : (t m : Table) (pre es : List Entry) (e : Entry) (last : List ℕ) → Split t m pre (e ∷ es) last → IsSome (get t e.0)
is_here t m pre es e last s = rw (get-entries t e.0, s.whole) (found_itself pre es e)

rest_sorted : (t m : Table) (pre es : List Entry) (e : Entry) (last : List ℕ) → Split t m pre (e ∷ es) last → T (below_all cmp e.0 es)
rest_sorted t m pre es e last s =
    let sorted : T (is_sorted cmp (e ∷ es)) = sorted_rest pre (e ∷ es) (subst (λ fs. T (is_sorted cmp fs)) s.whole (entries_sorted t)) in
    T_of _ (T_both (below_all cmp e.0 es) (is_sorted cmp es) sorted).0

-- what is below the next key was read
was_read : (t m : Table) (pre es : List Entry) (e : Entry) (last q : List ℕ) → Split t m pre (e ∷ es) last → cmp q e.0 ≡ Less → get m q ≡ get t q
was_read t m pre es e last q s lt =
    let later : T (below_all cmp q (e ∷ es)) = T_and (is_lt (cmp q e.0)) (below_all cmp q es) (ap is_lt lt) (lower q e.0 es lt (rest_sorted t m pre es e last s)) in
    let there : get t q ≡ find cmp q pre = get-entries t q ∙ ap (find cmp q) s.whole ∙ find_front q pre (e ∷ es) (find_below q (e ∷ es) later) in
    get-entries m q ∙ ap (find cmp q) s.front ∙ sym there

next : (t m : Table) (pre es : List Entry) (e : Entry) (last : List ℕ) → Split t m pre (e ∷ es) last → Split t (insert m e.0 e.1) (pre ++ e ∷ []) es e.0
next t m pre es e last s =
    let below : AllBelow e.0 (entries m) = s.is_last e.0 (less_is _ (T_both (is_lt (cmp last e.0)) (below_all cmp last es) s.rises).0) in
    record {
      whole = s.whole ∙ sym (append_assoc pre (e ∷ []) es);
      front = entries_push m e.0 e.1 below ∙ ap (λ (fs : List Entry). fs ++ e ∷ []) s.front;
      is_last = last_push m e.0 e.1 below;
      rises = rest_sorted t m pre es e last s;
      above_root = (T_both (is_lt (cmp root_text e.0)) (below_all cmp root_text es) s.above_root).1;
    }

parent_read : (t m : Table) (pre es : List Entry) (e : Entry) (last : List ℕ) → IsTree t → Split t m pre (e ∷ es) last → (o : Option (List ℕ)) → parent_text e.0 ≡ o → has_dir m o ≡ true
parent_read t m pre es e last tree s None up =
    let is : e.0 ≡ root_text = no_parent e.0 (tree.paths e.0 (is_here t m pre es e last s)) up in
    let lt : cmp root_text e.0 ≡ Less = less_is _ (T_both (is_lt (cmp root_text e.0)) (below_all cmp root_text es) s.above_root).0 in
    let bad : Equal ≡ Less = rw is at lt in
    absurd cc
parent_read t m pre es e last tree s (Some q) up =
    let some = is_here t m pre es e last s in
    let same : get m q ≡ get t q = was_read t m pre es e last q s (parent_less e.0 q (tree.paths e.0 some) up) in
    rw same (is_a_dir (get t q) (tree.parents e.0 q some up))

joins : (l : Limits) (t m : Table) (pre es : List Entry) (e : Entry) (last : List ℕ) → IsTree t → Split t m pre (e ∷ es) last → Kept l e.1 → Joins l last m e
joins l t m pre es e last tree s kept = record {
  after = (T_both (is_lt (cmp last e.0)) (below_all cmp last es) s.rises).0;
  parent = parent_read t m pre es e last tree s (parent_text e.0) refl;
  path = tree.paths e.0 (is_here t m pre es e last s);
  kept = kept;
}

pub follows : (l : Limits) (t m : Table) (pre es : List Entry) (last : List ℕ) → IsTree t → Split t m pre es last → AllByRecursion (λ e. Kept l e.1) es → Follows l last m es × (insert_all m es ≡ t)
follows l t m pre [] last tree s kept = (tt, same_entries_map m t (s.front ∙ sym (s.whole ∙ append-nil pre)))
follows l t m pre (e ∷ es) last tree s kept =
    let more = follows l t (insert m e.0 e.1) (pre ++ e ∷ []) es e.0 tree (next t m pre es e last s) kept.1 in
    ((joins l t m pre es e last tree s kept.0, more.0), more.1)

-- ---- the root comes first

abbrev pub only_root : ℕ → Table
only_root stamp = insert empty root_text (Dir stamp)

none_empty : entries (empty {X = Node} {R = cmp}) ≡ []
none_empty = nil_from_length _ (sym (len-entries empty) ∙ len-empty cmp Node)

pub entries_root : (stamp : ℕ) → entries (only_root stamp) ≡ (root_text, Dir stamp) ∷ []
entries_root stamp = entries_push empty root_text (Dir stamp) (subst (AllBelow root_text) (sym none_empty) tt) ∙ ap (λ (fs : List Entry). fs ++ (root_text, Dir stamp) ∷ []) none_empty

pub root_last : (stamp : ℕ) → IsLast root_text (only_root stamp)
root_last stamp = last_push empty root_text (Dir stamp) (subst (AllBelow root_text) (sym none_empty) tt)

pub root_path : IsPath root_text
root_path = record { spelled = refl; names = All-from_recursion IsComponent [] tt; deep = omega arith; long = omega arith }

nothing : (p : List ℕ) → IsSome (get {X = Node} {R = cmp} empty p) → ⊥
nothing p some = let bad : false ≡ true = rw (get-empty {X = Node} cmp p) at some in absurd cc

pub root_tree : (stamp : ℕ) → IsTree (only_root stamp)
root_tree stamp = record {
  root = rw (get-insert total empty root_text (Dir stamp) root_text) refl;
  paths = λ p some. elim (get_new empty root_text p (Dir stamp) some) [ inl same ↦ rw same root_path | inr old ↦ absurd (nothing p old) ];
  parents = λ p q some up. elim (get_new empty root_text p (Dir stamp) some) [
    | inl same ↦ let bad : None ≡ Some q = rw same at up in absurd cc
    | inr old ↦ absurd (nothing p old)
  ];
}

-- the entries of a tree begin with its root
pub root_entry : (t : Table) → IsTree t → (stamp : ℕ) × (es : List Entry) × (entries t ≡ (root_text, Dir stamp) ∷ es)
root_entry t tree = by (entries t) refl
  where
    found : (es : List Entry) → entries t ≡ es → kind_of (find cmp root_text es) ≡ kind.Dir
    found es e = rw (← e, ← get-entries t root_text) tree.root

    at_root : (n : Node) (es : List Entry) → entries t ≡ (root_text, n) ∷ es → kind_of (Some n) ≡ kind.Dir → (stamp : ℕ) × (es : List Entry) × (entries t ≡ (root_text, Dir stamp) ∷ es)
    at_root (File body stamp) es e d = absurd cc
    at_root (Dir stamp) es e d = (stamp, es, e)
    at_root (Link text stamp) es e d = absurd cc

    by : (es : List Entry) → entries t ≡ es → (stamp : ℕ) × (es : List Entry) × (entries t ≡ (root_text, Dir stamp) ∷ es)
    by [] e = let bad : kind_of None ≡ kind.Dir = found [] e in absurd cc
    by ((k, n) ∷ es) e =
        let here : IsSome (get t k) = rw (get-entries t k, e) (found_itself [] es (k, n)) in
        elim (root_first k (tree.paths k here)) [
          | inl same ↦ let e2 : entries t ≡ (root_text, n) ∷ es = e ∙ ap (λ (p : List ℕ). (p, n) ∷ es) same in at_root n es e2 (found ((root_text, n) ∷ es) e2)
          | inr lt ↦
              let sorted : T (is_sorted cmp ((k, n) ∷ es)) = subst (λ fs. T (is_sorted cmp fs)) e (entries_sorted t) in
              let rest : T (below_all cmp k es) = T_of _ (T_both (below_all cmp k es) (is_sorted cmp es) sorted).0 in
              let none : find cmp root_text ((k, n) ∷ es) ≡ None = find_below root_text ((k, n) ∷ es) (T_and (is_lt (cmp root_text k)) (below_all cmp root_text es) (ap is_lt lt) (lower root_text k es lt rest)) in
              let bad : kind_of None ≡ kind.Dir = subst (λ (o : Option Node). kind_of o ≡ kind.Dir) none (found ((k, n) ∷ es) e) in
              absurd cc
        ]

-- the entries behind the root
pub behind_root : (t : Table) (stamp : ℕ) (es : List Entry) → entries t ≡ (root_text, Dir stamp) ∷ es → Split t (only_root stamp) ((root_text, Dir stamp) ∷ []) es root_text
behind_root t stamp es e =
    let sorted : T (is_sorted cmp ((root_text, Dir stamp) ∷ es)) = subst (λ fs. T (is_sorted cmp fs)) e (entries_sorted t) in
    let rest : T (below_all cmp root_text es) = T_of _ (T_both (below_all cmp root_text es) (is_sorted cmp es) sorted).0 in
    record { whole = e; front = entries_root stamp; is_last = root_last stamp; rises = rest; above_root = rest }
