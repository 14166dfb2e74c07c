-- That a tree stays a tree under one more change of a job.
--     laid_insert           what a table is with one more change laid over it
--     tree_put              a node is put into a directory, which may be stamped
--     tree_touch            a node becomes one of its own kind
--     tree_remove           a path goes under which nothing stands, and its directory is stamped
--     no_child              where no names are left under own changes, nothing stands under the path
--     bare_but_dir          nothing stands under what is no directory
--     not_above             a text is not its own parent
--     paths_becomes         changes of paths stay changes of paths
use Rattle.std.proofs.Common.{◌≡◌, ◌≢◌, ◌<◌, ℕ, Bool, true, false, cond, ◌||◌, true≢false, List, [], ◌∷◌, ◌++◌, Option, Some, None, length, take, length-append, ◌⊎◌, inl, inr, refl, sym, ap, subst, ◌∙◌, arith}
use Rattle.std.proofs.lemmas.Bool.{and_from}
use Rattle.std.proofs.lemmas.Slice.Eq.{bytes_eq-Decides}
use Rattle.std.specs.Prelude.{IsSome, IfSome, is_some, unwrap_or, filter_map}
use Rattle.std.specs.declared.cmp.Ordering.{Ordering}
use Rattle.std.specs.declared.cmp.Ordering.TheVariants.{Less, Equal, Greater}
use Rattle.std.specs.Ordering.{eq_by_cmp, is_eq, match_ordering}
use Rattle.std.specs.Cmp.{tied_itself}
use Rattle.std.specs.Cmp.Lexicographic.{nat_list_cmp_total}
use Rattle.std.specs.BTreeMap.{is_at}
use Rattle.std.specs.BTreeSet.{insert_key}
use Rattle.std.specs.Set.{remove_key}
use Rattle.std.specs.FinMap.{FinMap, get, insert, keys, contains_key, get-insert}
use Rattle.std.specs.List.{AllByRecursion, filter, flat_map, list_any, cons_option}
use Rattle.em_path.specs.Paths.{IsPath, root_text, path_text, child_text, parent_of, parent_text, last_of}
use Rattle.em_path.proofs.Spelling.{behind, parts, path_text-parts, path_text-push, components-long, split_last, as_child}
use Rattle.em_tree.specs.declared.node.Kind.{Kind}
use Rattle.em_tree.specs.declared.node.Kind.TheVariants as kind
use Rattle.em_tree.specs.declared.node.Node.{Node}
use Rattle.em_tree.specs.declared.node.Node.TheVariants.{File, Dir, Link}
use Rattle.em_tree.specs.Trees.{Table, Changes, IsTree, kind_of, changed, laid_over}
use Rattle.em_tree.specs.Index.{is_parent, is_text}
use Rattle.em_tree.specs.Names.{children_of, in_dir, names_of}
use Rattle.em_tree.proofs.Maps.{order}
use Rattle.em_tree.proofs.Tables.{same_key}
use Rattle.em_tree.proofs.Naming.{any_child, parent_said}
use Rattle.em_tree.proofs.Laying.{over, get-changed, same_table}
use Rattle.em_tree.proofs.Lawful.{get-laid_over, IsTree-put, IsTree-remove}
use Rattle.em_view.specs.Rows.{becomes}
use Rattle.em_view.specs.Names.{amended, amended_all, with_own}

-- ---- a name in a list of names

abbrev has : List ℕ → List (List ℕ) → Bool
has x ns = list_any (is_at (order x)) ns

itself : (x : List ℕ) → is_at (order x) x ≡ true
itself x = ap is_eq (tied_itself nat_list_cmp_total x)

or_right : (a b : Bool) → b ≡ true → (a || b) ≡ true
or_right true b h = refl
or_right false b h = h

or_more : (a b c : Bool) → (b ≡ true → c ≡ true) → (a || b) ≡ true → (a || c) ≡ true
or_more true b c f h = refl
or_more false b c f h = f h

has_inserted : (x : List ℕ) (ns : List (List ℕ)) → has x (insert_key order ns x) ≡ true
has_inserted x [] = ap (λ b. b || false) (itself x)
has_inserted x (n ∷ ns) = by_case (order x n) refl (has_inserted x ns)
  where
    by_case : (r : Ordering) → order x n ≡ r → has x (insert_key order ns x) ≡ true → has x (match_ordering r (x ∷ n ∷ ns) (n ∷ ns) (n ∷ insert_key order ns x)) ≡ true
    by_case Less e h = ap (λ b. b || has x (n ∷ ns)) (itself x)
    by_case Equal e h = ap (λ o. is_eq o || has x ns) e
    by_case Greater e h = or_right (is_eq (order x n)) (has x (insert_key order ns x)) h

has_insert : (x y : List ℕ) (ns : List (List ℕ)) → has x ns ≡ true → has x (insert_key order ns y) ≡ true
has_insert x y [] h = cc
has_insert x y (n ∷ ns) h = by_case (order y n) (has_insert x y ns)
  where
    by_case : (r : Ordering) → (has x ns ≡ true → has x (insert_key order ns y) ≡ true) → has x (match_ordering r (y ∷ n ∷ ns) (n ∷ ns) (n ∷ insert_key order ns y)) ≡ true
    by_case Less f = or_right (is_eq (order x y)) (has x (n ∷ ns)) h
    by_case Equal f = h
    by_case Greater f = or_more (is_eq (order x n)) (has x ns) (has x (insert_key order ns y)) f h

has_remove : (x y : List ℕ) (ns : List (List ℕ)) → y ≢ x → has x ns ≡ true → has x (remove_key (is_at (order y)) ns) ≡ true
has_remove x y [] other h = h
has_remove x y (n ∷ ns) other h = by_case (eq_by_cmp order y n) refl (has_remove x y ns other)
  where
    by_tie : (b : Bool) → eq_by_cmp order x n ≡ b → y ≡ n → (b || has x ns) ≡ true → has x ns ≡ true
    by_tie true g e h = absurd (other (e ∙ sym (same_key x n g)))
    by_tie false g e h = h

    by_case : (b : Bool) → eq_by_cmp order y n ≡ b → (has x ns ≡ true → has x (remove_key (is_at (order y)) ns) ≡ true) → has x (cond b ns (n ∷ remove_key (is_at (order y)) ns)) ≡ true
    by_case true e f = by_tie (eq_by_cmp order x n) refl (same_key y n e) h
    by_case false e f = or_more (is_eq (order x n)) (has x ns) (has x (remove_key (is_at (order y)) ns)) f h

has_made : (f : List ℕ → Option (List ℕ)) (k x : List ℕ) (ks : List (List ℕ)) → has k ks ≡ true → f k ≡ Some x → has x (filter_map f ks) ≡ true
has_made f k x [] h e = cc
has_made f k x (q ∷ qs) h e = by_case (eq_by_cmp order k q) refl h (has_made f k x qs)
  where
    behind_one : (o : Option (List ℕ)) → has x (filter_map f qs) ≡ true → has x (cons_option o (filter_map f qs)) ≡ true
    behind_one None h = h
    behind_one (Some y) h = or_right (is_eq (order x y)) (has x (filter_map f qs)) h

    by_case : (b : Bool) → eq_by_cmp order k q ≡ b → (b || has k qs) ≡ true → (has k qs ≡ true → f k ≡ Some x → has x (filter_map f qs) ≡ true) → has x (cons_option (f q) (filter_map f qs)) ≡ true
    by_case true g h r = ap (λ (o : Option (List ℕ)). has x (cons_option o (filter_map f qs))) (sym (ap f (same_key k q g)) ∙ e) ∙ ap (λ b. b || has x (filter_map f qs)) (itself x)
    by_case false g h r = behind_one (f q) (r h e)

-- ---- one change more

pub laid_insert : (d : Changes) (t : Table) (p : List ℕ) (c : Option Node) → laid_over (insert d p c) t ≡ changed (laid_over d t) p c
laid_insert d t p c = same_table (laid_over (insert d p c) t) (changed (laid_over d t) p c) (λ q.
    get-laid_over (insert d p c) t q ∙ ap (λ o. over o (get t q)) (get-insert nat_list_cmp_total d p c q) ∙ by_case q (eq_by_cmp order q p)
    ∙ sym (get-changed (laid_over d t) p c q ∙ ap (cond (eq_by_cmp order q p) c) (get-laid_over d t q)))
  where
    by_case : (q : List ℕ) (b : Bool) → over (cond b (Some c) (get d q)) (get t q) ≡ cond b c (over (get d q) (get t q))
    by_case q true = refl
    by_case q false = refl

paths_insert : (p : List ℕ) (c : Option Node) (d : Changes) → ((k : List ℕ) → IsSome (get d k) → IsPath k) → IsPath p → (k : List ℕ) → IsSome (get (insert d p c) k) → IsPath k
paths_insert p c d h path k i = by_case (eq_by_cmp order k p) refl (subst (λ (o : Option (Option Node)). IsSome o) (get-insert nat_list_cmp_total d p c k) i)
  where
    by_case : (b : Bool) → eq_by_cmp order k p ≡ b → IsSome (cond b (Some c) (get d k)) → IsPath k
    by_case true e i = subst IsPath (sym (same_key k p e)) path
    by_case false e i = h k i

pub paths_becomes : (p : List ℕ) (c : Option Node) (above : Option (List ℕ)) (n : ℕ) (d : Changes) → ((k : List ℕ) → IsSome (get d k) → IsPath k) → IsPath p → IfSome above IsPath
    → (k : List ℕ) → IsSome (get (becomes p c above n d) k) → IsPath k
paths_becomes p c None n d h path up = paths_insert p c d h path
paths_becomes p c (Some q) n d h path up = paths_insert q (Some (Dir n)) (insert d p c) (paths_insert p c d h path) up

-- ---- a parent

front_shorter : (cs : List (List ℕ)) (c : List ℕ) → 1 < length (path_text (cs ++ c ∷ [])) → length (path_text cs) < length (path_text (cs ++ c ∷ []))
front_shorter [] c h = h
front_shorter (b ∷ bs) c h = omega (arith, ap length (path_text-push (b ∷ bs) c), length-append (flat_map behind (b ∷ bs)) (47 ∷ c))

parent_shorter : (cs : List (List ℕ)) (q : List ℕ) → parent_of cs ≡ Some q → 1 < length (path_text cs) → length q < length (path_text cs)
parent_shorter [] q up h = cc
parent_shorter (c ∷ cs) q up h =
    let s = split_last c cs in
    let front = take (length cs) (c ∷ cs) in
    let is : path_text front ≡ q = cc in
    let same = ap length is in
    let whole = ap (λ (ds : List (List ℕ)). length (path_text ds)) s.1 in
    let less = front_shorter front s.0 (omega arith) in
    omega arith

pub not_above : (p q : List ℕ) → parent_text p ≡ Some q → p ≢ q
not_above [] q up e = cc
not_above (x ∷ []) q up e = cc
not_above (x ∷ y ∷ t) q up e =
    let spelled = ap length (path_text-parts (y ∷ t)) in
    let less = parent_shorter (parts (y ∷ t)) q (ap parent_of (sym (components-long (y ∷ t) (λ z. cc))) ∙ up) (omega arith) in
    let same = ap length e in
    absurd (omega arith)

-- ---- trees

-- a table with the same kinds everywhere is a tree too
same_kinds : (s t : Table) → ((k : List ℕ) → kind_of (get s k) ≡ kind_of (get t k)) → IsTree t → IsTree s
same_kinds s t e h = record {
  root = e root_text ∙ h.root;
  paths = λ k i. h.paths k (there (get s k) (get t k) (e k) i);
  parents = λ k q i up. e q ∙ h.parents k q (there (get s k) (get t k) (e k) i) up;
}
  where
    there : (a b : Option Node) → kind_of a ≡ kind_of b → IsSome a → IsSome b
    there (Some (File body stamp)) None e i = cc
    there (Some (Dir stamp)) None e i = cc
    there (Some (Link text stamp)) None e i = cc
    there None b e i = cc
    there a (Some n) e i = refl

-- a node becomes one of its own kind
tree_same : (t : Table) (p : List ℕ) (node : Node) → IsTree t → kind_of (get t p) ≡ kind_of (Some node) → IsTree (changed t p (Some node))
tree_same t p node h same = same_kinds (changed t p (Some node)) t (λ k. ap kind_of (get-changed t p (Some node) k) ∙ by_case k (eq_by_cmp order k p) refl) h
  where
    by_case : (k : List ℕ) (b : Bool) → eq_by_cmp order k p ≡ b → kind_of (cond b (Some node) (get t k)) ≡ kind_of (get t k)
    by_case k true e = sym (ap (λ (q : List ℕ). kind_of (get t q)) (same_key k p e) ∙ same)
    by_case k false e = refl

-- one change more, and then the directory above is stamped
tree_stamped : (t : Table) (d : Changes) (p q : List ℕ) (c : Option Node) (n : ℕ) → IsTree (changed (laid_over d t) p c) → kind_of (get (changed (laid_over d t) p c) q) ≡ kind.Dir → IsTree (laid_over (becomes p c (Some q) n d) t)
tree_stamped t d p q c n h dir =
    subst IsTree (sym (laid_insert (insert d p c) t q (Some (Dir n)) ∙ ap (λ (s : Table). changed s q (Some (Dir n))) (laid_insert d t p c))) (tree_same (changed (laid_over d t) p c) q (Dir n) h dir)

pub tree_put : (t : Table) (d : Changes) (p q : List ℕ) (node : Node) (n : ℕ) (above : Option (List ℕ)) → IsTree (laid_over d t) → IsPath p → parent_text p ≡ Some q → kind_of (get (laid_over d t) q) ≡ kind.Dir
    → (kind_of (get (laid_over d t) p) ≡ kind.Dir → kind_of (Some node) ≡ kind.Dir) → (above ≡ None) ⊎ (above ≡ Some q) → IsTree (laid_over (becomes p (Some node) above n d) t)
tree_put t d p q node n above h path up dir same which = by_above which
  where
    put : IsTree (insert (laid_over d t) p node)
    put = IsTree-put (laid_over d t) p q node h path up dir same

    stays : (b : Bool) → eq_by_cmp order q p ≡ b → kind_of (cond b (Some node) (get (laid_over d t) q)) ≡ kind.Dir
    stays true e = same (ap (λ (k : List ℕ). kind_of (get (laid_over d t) k)) (sym (same_key q p e)) ∙ dir)
    stays false e = dir

    by_above : (above ≡ None) ⊎ (above ≡ Some q) → IsTree (laid_over (becomes p (Some node) above n d) t)
    by_above (inl e) = subst (λ (a : Option (List ℕ)). IsTree (laid_over (becomes p (Some node) a n d) t)) (sym e) (subst IsTree (sym (laid_insert d t p (Some node))) put)
    by_above (inr e) = subst (λ (a : Option (List ℕ)). IsTree (laid_over (becomes p (Some node) a n d) t)) (sym e)
        (tree_stamped t d p q (Some node) n put (ap kind_of (get-changed (laid_over d t) p (Some node) q) ∙ stays (eq_by_cmp order q p) refl))

pub tree_touch : (t : Table) (d : Changes) (p : List ℕ) (node : Node) (n : ℕ) → IsTree (laid_over d t) → kind_of (get (laid_over d t) p) ≡ kind_of (Some node) → IsTree (laid_over (becomes p (Some node) None n d) t)
tree_touch t d p node n h same = subst IsTree (sym (laid_insert d t p (Some node))) (tree_same (laid_over d t) p node h same)

pub tree_remove : (t : Table) (d : Changes) (p q : List ℕ) (n : ℕ) → IsTree (laid_over d t) → parent_text p ≡ Some q → IsSome (get (laid_over d t) p) → ((k : List ℕ) → parent_text k ≡ Some p → get (laid_over d t) k ≡ None)
    → IsTree (laid_over (becomes p None (Some q) n d) t)
tree_remove t d p q n h up has bare = tree_stamped t d p q None n (IsTree-remove (laid_over d t) p q h up bare) (ap kind_of (get-changed (laid_over d t) p None q) ∙ stays (eq_by_cmp order q p) refl)
  where
    stays : (b : Bool) → eq_by_cmp order q p ≡ b → kind_of (cond b None (get (laid_over d t) q)) ≡ kind.Dir
    stays true e = absurd (not_above p q up (sym (same_key q p e)))
    stays false e = h.parents p q has up

pub bare_but_dir : (t : Table) (p : List ℕ) → IsTree t → (kind_of (get t p) ≡ kind.Dir → ⊥) → (k : List ℕ) → parent_text k ≡ Some p → get t k ≡ None
bare_but_dir t p h other k up = by_case (get t k) refl
  where
    by_case : (o : Option Node) → get t k ≡ o → get t k ≡ None
    by_case None e = e
    by_case (Some n) e = absurd (other (h.parents k p (ap is_some e) up))

-- ---- the names of a directory under own changes

-- of two paths with one parent and one last component
same_child : (k q p : List ℕ) → IsPath k → IsPath q → parent_text k ≡ Some p → parent_text q ≡ Some p → last_of k ≡ last_of q → k ≡ q
same_child k q p a b up under same =
    let c = as_child k p a up in
    let e = as_child q p b under in
    let is : c.0 ≡ e.0 = (let z : Some c.0 ≡ Some e.0 = sym c.1.last ∙ same ∙ e.1.last in cc) in
    c.1.text ∙ ap (child_text p) is ∙ sym e.1.text

child_listed : {X : Type 0} (t : FinMap order X) (p k : List ℕ) → parent_text k ≡ Some p → IsSome (get t k) → has k (children_of t p) ≡ true
child_listed t p k up i = any_child t p k ∙ and_from (is_parent p k) (contains_key t k) (ap (λ (o : Option (List ℕ)). is_text o p) up ∙ (bytes_eq-Decides p p).1 refl) i

parents_are : (p : List ℕ) (ks : List (List ℕ)) → AllByRecursion (λ k. parent_text k ≡ Some p) (filter (is_parent p) ks)
parents_are p [] = tt
parents_are p (k ∷ ks) = by_case (is_parent p k) refl (parents_are p ks)
  where
    by_case : (b : Bool) → is_parent p k ≡ b → AllByRecursion (λ k. parent_text k ≡ Some p) (filter (is_parent p) ks) → AllByRecursion (λ k. parent_text k ≡ Some p) (cond b (k ∷ filter (is_parent p) ks) (filter (is_parent p) ks))
    by_case true e h = (parent_said (parent_text k) p e, h)
    by_case false e h = h

-- the path k, with the last component x, under p
module _ (d : Changes) (paths : (k : List ℕ) → IsSome (get d k) → IsPath k) (p k x : List ℕ) (path : IsPath k) (up : parent_text k ≡ Some p) (last : last_of k ≡ Some x) where
  amended_stays : get d k ≢ Some None → (q : List ℕ) (ns : List (List ℕ)) → parent_text q ≡ Some p → has x ns ≡ true → has x (amended (get d q) (last_of q) ns) ≡ true
  amended_stays live q ns under h = by_case (get d q) (last_of q) refl refl
    where
      by_case : (o : Option (Option Node)) (l : Option (List ℕ)) → get d q ≡ o → last_of q ≡ l → has x (amended o l ns) ≡ true
      by_case None l e f = h
      by_case (Some (Some n)) None e f = h
      by_case (Some (Some n)) (Some y) e f = has_insert x y ns h
      by_case (Some None) None e f = h
      by_case (Some None) (Some y) e f = has_remove x y ns (λ is. live (ap (get d) (same_child k q p path (paths q (ap is_some e)) up under (last ∙ ap (λ n. Some n) (sym is) ∙ sym f)) ∙ e)) h

  all_stay : get d k ≢ Some None → (qs ns : List (List ℕ)) → AllByRecursion (λ q. parent_text q ≡ Some p) qs → has x ns ≡ true → has x (amended_all d qs ns) ≡ true
  all_stay live [] ns a h = h
  all_stay live (q ∷ qs) ns a h = all_stay live qs (amended (get d q) (last_of q) ns) a.1 (amended_stays live q ns a.0 h)

  all_put : (n : Node) → get d k ≡ Some (Some n) → (qs ns : List (List ℕ)) → AllByRecursion (λ q. parent_text q ≡ Some p) qs → has k qs ≡ true → has x (amended_all d qs ns) ≡ true
  all_put n e [] ns a h = cc
  all_put n e (q ∷ qs) ns a h = by_case (eq_by_cmp order k q) refl h (all_put n e qs (amended (get d q) (last_of q) ns) a.1)
    where
      here : has x (amended (get d k) (last_of k) ns) ≡ true
      here = ap (λ (o : Option (Option Node)). has x (amended o (last_of k) ns)) e ∙ ap (λ (l : Option (List ℕ)). has x (amended (Some (Some n)) l ns)) last ∙ has_inserted x ns

      by_case : (b : Bool) → eq_by_cmp order k q ≡ b → (b || has k qs) ≡ true → (has k qs ≡ true → has x (amended_all d (q ∷ qs) ns) ≡ true) → has x (amended_all d (q ∷ qs) ns) ≡ true
      by_case true g h r = all_stay (λ z. cc) qs (amended (get d q) (last_of q) ns) a.1 (ap (λ (i : List ℕ). has x (amended (get d i) (last_of i) ns)) (sym (same_key k q g)) ∙ here)
      by_case false g h r = r h

  -- what stands at k has its name among those of p
  name_stands : (t : Table) → IsTree t → (n : Node) → over (get d k) (get t k) ≡ Some n → has x (with_own d p (unwrap_or (names_of t p) [])) ≡ true
  name_stands t h n = by_case (get d k) refl
    where
      names : List (List ℕ)
      names = unwrap_or (names_of t p) []

      told : IsSome (get t k) → has x names ≡ true
      told i = ap (λ (o : Kind). has x (unwrap_or (in_dir o (filter_map last_of (children_of t p))) [])) (h.parents k p i up) ∙ has_made last_of k x (children_of t p) (child_listed t p k up i) last

      by_case : (o : Option (Option Node)) → get d k ≡ o → over o (get t k) ≡ Some n → has x (with_own d p names) ≡ true
      by_case None e f = all_stay (λ z. cc) (children_of d p) names (parents_are p (keys d)) (told (ap is_some f))
      by_case (Some None) e f = cc
      by_case (Some (Some m)) e f = all_put m e (children_of d p) names (parents_are p (keys d)) (child_listed d p k up (ap is_some e))

pub no_child : (t : Table) (d : Changes) (p : List ℕ) → IsTree t → IsTree (laid_over d t) → ((k : List ℕ) → IsSome (get d k) → IsPath k) → with_own d p (unwrap_or (names_of t p) []) ≡ []
    → (k : List ℕ) → parent_text k ≡ Some p → get (laid_over d t) k ≡ None
no_child t d p low h paths none k up = by_case (get (laid_over d t) k) refl
  where
    by_case : (o : Option Node) → get (laid_over d t) k ≡ o → get (laid_over d t) k ≡ None
    by_case None e = e
    by_case (Some n) e =
        let path = h.paths k (ap is_some e) in
        let c = as_child k p path up in
        let found = name_stands d paths p k c.0 path up c.1.last t low n (sym (get-laid_over d t k) ∙ e) in
        absurd (true≢false (sym found ∙ ap (has c.0) none))
