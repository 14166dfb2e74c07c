-- The names of a directory under a job's own changes: all that stands right below it has its name
-- among them, and each is a component.
use Rattle.std.proofs.Common.{◌≡◌, ◌≢◌, ℕ, Bool, true, false, cond, ◌||◌, List, [], ◌∷◌, Option, Some, None, ◌⊎◌, inl, inr, refl, sym, ap, ◌∙◌}
use Rattle.std.proofs.lemmas.Bool.{and_from}
use Rattle.std.proofs.lemmas.Slice.Eq.{bytes_eq-Decides}
use Rattle.std.specs.Prelude.{IsSome, is_some, unwrap_or, filter_map}
use Rattle.std.specs.declared.cmp.Ordering.{Ordering}
use Rattle.std.specs.declared.cmp.Ordering.TheVariants.{Less, Equal, Greater}
use Rattle.std.specs.Ordering.{eq_by_cmp, is_eq, match_ordering}
use Rattle.std.specs.Cmp.{tied_itself}
use Rattle.std.specs.Cmp.Lexicographic.{nat_list_cmp_total}
use Rattle.std.specs.BTreeMap.{is_at}
use Rattle.std.specs.BTreeSet.{insert_key}
use Rattle.std.specs.Set.{remove_key}
use Rattle.std.specs.FinMap.{FinMap, get, keys, contains_key}
use Rattle.std.specs.List.{AllByRecursion, filter, list_any, cons_option}
use Rattle.em_path.specs.Paths.{IsPath, child_text, parent_text, last_of}
use Rattle.em_path.proofs.Spelling.{as_child}
use Rattle.em_tree.specs.declared.node.Kind.{Kind}
use Rattle.em_tree.specs.declared.node.Kind.TheVariants as kind
use Rattle.em_tree.specs.declared.node.Node.{Node}
use Rattle.em_tree.specs.Trees.{Table, Changes, IsTree, kind_of, laid_over}
use Rattle.em_tree.specs.Index.{is_parent, is_text}
use Rattle.em_tree.specs.Names.{children_of, in_dir, names_of}
use Rattle.em_tree.proofs.Maps.{order}
use Rattle.em_tree.proofs.Tables.{same_key}
use Rattle.std.specs.Prelude.{All}
use Rattle.std.proofs.lemmas.Map.Views.{All-insert_key, All-remove_key}
use Rattle.em_path.specs.Paths.{IsComponent}
use Rattle.em_tree.proofs.Naming.{any_child, parent_said, IsNameList-names, IsNameList-none}
use Rattle.em_view.proofs.OwnNames.{component_of}
use Rattle.em_tree.proofs.Laying.{over}
use Rattle.em_tree.proofs.Lawful.{get-laid_over}
use Rattle.em_view.specs.Names.{amended, amended_all, with_own}

-- ---- a name in a list of names

abbrev has : List ℕ → List (List ℕ) → Bool
has x ns = list_any (is_at (order x)) ns

itself : (x : List ℕ) → is_at (order x) x ≡ true
itself x = ap is_eq (tied_itself nat_list_cmp_total x)

or_right : (a b : Bool) → b ≡ true → (a || b) ≡ true
or_right true b h = refl
or_right false b h = h

or_more : (a b c : Bool) → (b ≡ true → c ≡ true) → (a || b) ≡ true → (a || c) ≡ true
or_more true b c f h = refl
or_more false b c f h = f h

has_inserted : (x : List ℕ) (ns : List (List ℕ)) → has x (insert_key order ns x) ≡ true
has_inserted x [] = ap (λ b. b || false) (itself x)
has_inserted x (n ∷ ns) = by_case (order x n) refl (has_inserted x ns)
  where
    by_case : (r : Ordering) → order x n ≡ r → has x (insert_key order ns x) ≡ true → has x (match_ordering r (x ∷ n ∷ ns) (n ∷ ns) (n ∷ insert_key order ns x)) ≡ true
    by_case Less e h = ap (λ b. b || has x (n ∷ ns)) (itself x)
    by_case Equal e h = ap (λ o. is_eq o || has x ns) e
    by_case Greater e h = or_right (is_eq (order x n)) (has x (insert_key order ns x)) h

has_insert : (x y : List ℕ) (ns : List (List ℕ)) → has x ns ≡ true → has x (insert_key order ns y) ≡ true
has_insert x y [] h = cc
has_insert x y (n ∷ ns) h = by_case (order y n) (has_insert x y ns)
  where
    by_case : (r : Ordering) → (has x ns ≡ true → has x (insert_key order ns y) ≡ true) → has x (match_ordering r (y ∷ n ∷ ns) (n ∷ ns) (n ∷ insert_key order ns y)) ≡ true
    by_case Less f = or_right (is_eq (order x y)) (has x (n ∷ ns)) h
    by_case Equal f = h
    by_case Greater f = or_more (is_eq (order x n)) (has x ns) (has x (insert_key order ns y)) f h

has_remove : (x y : List ℕ) (ns : List (List ℕ)) → y ≢ x → has x ns ≡ true → has x (remove_key (is_at (order y)) ns) ≡ true
has_remove x y [] other h = h
has_remove x y (n ∷ ns) other h = by_case (eq_by_cmp order y n) refl (has_remove x y ns other)
  where
    by_tie : (b : Bool) → eq_by_cmp order x n ≡ b → y ≡ n → (b || has x ns) ≡ true → has x ns ≡ true
    by_tie true g e h = absurd (other (e ∙ sym (same_key x n g)))
    by_tie false g e h = h

    by_case : (b : Bool) → eq_by_cmp order y n ≡ b → (has x ns ≡ true → has x (remove_key (is_at (order y)) ns) ≡ true) → has x (cond b ns (n ∷ remove_key (is_at (order y)) ns)) ≡ true
    by_case true e f = by_tie (eq_by_cmp order x n) refl (same_key y n e) h
    by_case false e f = or_more (is_eq (order x n)) (has x ns) (has x (remove_key (is_at (order y)) ns)) f h

has_made : (f : List ℕ → Option (List ℕ)) (k x : List ℕ) (ks : List (List ℕ)) → has k ks ≡ true → f k ≡ Some x → has x (filter_map f ks) ≡ true
has_made f k x [] h e = cc
has_made f k x (q ∷ qs) h e = by_case (eq_by_cmp order k q) refl h (has_made f k x qs)
  where
    behind_one : (o : Option (List ℕ)) → has x (filter_map f qs) ≡ true → has x (cons_option o (filter_map f qs)) ≡ true
    behind_one None h = h
    behind_one (Some y) h = or_right (is_eq (order x y)) (has x (filter_map f qs)) h

    by_case : (b : Bool) → eq_by_cmp order k q ≡ b → (b || has k qs) ≡ true → (has k qs ≡ true → f k ≡ Some x → has x (filter_map f qs) ≡ true) → has x (cons_option (f q) (filter_map f qs)) ≡ true
    by_case true g h r = ap (λ (o : Option (List ℕ)). has x (cons_option o (filter_map f qs))) (sym (ap f (same_key k q g)) ∙ e) ∙ ap (λ b. b || has x (filter_map f qs)) (itself x)
    by_case false g h r = behind_one (f q) (r h e)

abbrev pub In : List ℕ → List (List ℕ) → Type 0
In x [] = ⊥
In x (y ∷ ys) = (x ≡ y) ⊎ In x ys

has_in : (x : List ℕ) (ns : List (List ℕ)) → has x ns ≡ true → In x ns
has_in x [] h = absurd cc
has_in x (n ∷ ns) h = by_case (eq_by_cmp order x n) refl h (has_in x ns)
  where
    by_case : (b : Bool) → eq_by_cmp order x n ≡ b → (b || has x ns) ≡ true → (has x ns ≡ true → In x ns) → In x (n ∷ ns)
    by_case true e h f = inl (same_key x n e)
    by_case false e h f = inr (f h)

-- ---- the names of a directory under own changes

-- of two paths with one parent and one last component
same_child : (k q p : List ℕ) → IsPath k → IsPath q → parent_text k ≡ Some p → parent_text q ≡ Some p → last_of k ≡ last_of q → k ≡ q
same_child k q p a b up under same =
    let c = as_child k p a up in
    let e = as_child q p b under in
    let is : c.0 ≡ e.0 = (let z : Some c.0 ≡ Some e.0 = sym c.1.last ∙ same ∙ e.1.last in cc) in
    c.1.text ∙ ap (child_text p) is ∙ sym e.1.text

child_listed : {X : Type 0} (t : FinMap order X) (p k : List ℕ) → parent_text k ≡ Some p → IsSome (get t k) → has k (children_of t p) ≡ true
child_listed t p k up i = any_child t p k ∙ and_from (is_parent p k) (contains_key t k) (ap (λ (o : Option (List ℕ)). is_text o p) up ∙ (bytes_eq-Decides p p).1 refl) i

parents_are : (p : List ℕ) (ks : List (List ℕ)) → AllByRecursion (λ k. parent_text k ≡ Some p) (filter (is_parent p) ks)
parents_are p [] = tt
parents_are p (k ∷ ks) = by_case (is_parent p k) refl (parents_are p ks)
  where
    by_case : (b : Bool) → is_parent p k ≡ b → AllByRecursion (λ k. parent_text k ≡ Some p) (filter (is_parent p) ks) → AllByRecursion (λ k. parent_text k ≡ Some p) (cond b (k ∷ filter (is_parent p) ks) (filter (is_parent p) ks))
    by_case true e h = (parent_said (parent_text k) p e, h)
    by_case false e h = h

-- the path k, with the last component x, under p
module _ (d : Changes) (paths : (k : List ℕ) → IsSome (get d k) → IsPath k) (p k x : List ℕ) (path : IsPath k) (up : parent_text k ≡ Some p) (last : last_of k ≡ Some x) where
  amended_stays : get d k ≢ Some None → (q : List ℕ) (ns : List (List ℕ)) → parent_text q ≡ Some p → has x ns ≡ true → has x (amended (get d q) (last_of q) ns) ≡ true
  amended_stays live q ns under h = by_case (get d q) (last_of q) refl refl
    where
      by_case : (o : Option (Option Node)) (l : Option (List ℕ)) → get d q ≡ o → last_of q ≡ l → has x (amended o l ns) ≡ true
      by_case None l e f = h
      by_case (Some (Some n)) None e f = h
      by_case (Some (Some n)) (Some y) e f = has_insert x y ns h
      by_case (Some None) None e f = h
      by_case (Some None) (Some y) e f = has_remove x y ns (λ is. live (ap (get d) (same_child k q p path (paths q (ap is_some e)) up under (last ∙ ap (λ n. Some n) (sym is) ∙ sym f)) ∙ e)) h

  all_stay : get d k ≢ Some None → (qs ns : List (List ℕ)) → AllByRecursion (λ q. parent_text q ≡ Some p) qs → has x ns ≡ true → has x (amended_all d qs ns) ≡ true
  all_stay live [] ns a h = h
  all_stay live (q ∷ qs) ns a h = all_stay live qs (amended (get d q) (last_of q) ns) a.1 (amended_stays live q ns a.0 h)

  all_put : (n : Node) → get d k ≡ Some (Some n) → (qs ns : List (List ℕ)) → AllByRecursion (λ q. parent_text q ≡ Some p) qs → has k qs ≡ true → has x (amended_all d qs ns) ≡ true
  all_put n e [] ns a h = cc
  all_put n e (q ∷ qs) ns a h = by_case (eq_by_cmp order k q) refl h (all_put n e qs (amended (get d q) (last_of q) ns) a.1)
    where
      here : has x (amended (get d k) (last_of k) ns) ≡ true
      here = ap (λ (o : Option (Option Node)). has x (amended o (last_of k) ns)) e ∙ ap (λ (l : Option (List ℕ)). has x (amended (Some (Some n)) l ns)) last ∙ has_inserted x ns

      by_case : (b : Bool) → eq_by_cmp order k q ≡ b → (b || has k qs) ≡ true → (has k qs ≡ true → has x (amended_all d (q ∷ qs) ns) ≡ true) → has x (amended_all d (q ∷ qs) ns) ≡ true
      by_case true g h r = all_stay (λ z. cc) qs (amended (get d q) (last_of q) ns) a.1 (ap (λ (i : List ℕ). has x (amended (get d i) (last_of i) ns)) (sym (same_key k q g)) ∙ here)
      by_case false g h r = r h

  -- what stands at k has its name among those of p
  name_stands : (t : Table) → IsTree t → (n : Node) → over (get d k) (get t k) ≡ Some n → has x (with_own d p (unwrap_or (names_of t p) [])) ≡ true
  name_stands t h n = by_case (get d k) refl
    where
      names : List (List ℕ)
      names = unwrap_or (names_of t p) []

      told : IsSome (get t k) → has x names ≡ true
      told i = ap (λ (o : Kind). has x (unwrap_or (in_dir o (filter_map last_of (children_of t p))) [])) (h.parents k p i up) ∙ has_made last_of k x (children_of t p) (child_listed t p k up i) last

      by_case : (o : Option (Option Node)) → get d k ≡ o → over o (get t k) ≡ Some n → has x (with_own d p names) ≡ true
      by_case None e f = all_stay (λ z. cc) (children_of d p) names (parents_are p (keys d)) (told (ap is_some f))
      by_case (Some None) e f = cc
      by_case (Some (Some m)) e f = all_put m e (children_of d p) names (parents_are p (keys d)) (child_listed d p k up (ap is_some e))

-- ---- each name is one component

last_component : (q n : List ℕ) → IsPath q → last_of q ≡ Some n → IsComponent n
last_component q n path e = component_of q n path (sym e)

components_amended : (q : List ℕ) (o : Option (Option Node)) (l : Option (List ℕ)) (ns : List (List ℕ)) → (IsSome o → IsPath q) → last_of q ≡ l → All IsComponent ns → All IsComponent (amended o l ns)
components_amended q (Some (Some n)) (Some name) ns path e h = All-insert_key order name IsComponent ns h (last_component q name (path refl) e)
components_amended q (Some None) (Some name) ns path e h = All-remove_key (is_at (order name)) IsComponent ns h
components_amended q (Some (Some n)) None ns path e h = h
components_amended q (Some None) None ns path e h = h
components_amended q None l ns path e h = h

components_all : (d : Changes) (qs ns : List (List ℕ)) → ((k : List ℕ) → IsSome (get d k) → IsPath k) → All IsComponent ns → All IsComponent (amended_all d qs ns)
components_all d [] ns paths h = h
components_all d (q ∷ qs) ns paths h = components_all d qs (amended (get d q) (last_of q) ns) paths (components_amended q (get d q) (last_of q) ns (paths q) refl h)

names_told : (t : Table) (p : List ℕ) → IsTree t → All IsComponent (unwrap_or (names_of t p) [])
names_told t p h = by_kind (kind_of (get t p))
  where
    by_kind : (k : Kind) → All IsComponent (unwrap_or (in_dir k (filter_map last_of (children_of t p))) [])
    by_kind kind.Absent = IsNameList-none.components
    by_kind kind.File = IsNameList-none.components
    by_kind kind.Link = IsNameList-none.components
    by_kind kind.Dir = (IsNameList-names t p h).components

module _ (t : Table) (d : Changes) (low : IsTree t) (paths : (k : List ℕ) → IsSome (get d k) → IsPath k) (p : List ℕ) where
  abbrev pub own_list : List (List ℕ)
  own_list = with_own d p (unwrap_or (names_of t p) [])

  pub own_components : All IsComponent own_list
  own_components = components_all d (children_of d p) (unwrap_or (names_of t p) []) paths (names_told t p low)

  pub own_has : (k x : List ℕ) → IsPath k → parent_text k ≡ Some p → last_of k ≡ Some x → IsSome (get (laid_over d t) k) → In x own_list
  own_has k x path up last there = by_node (get (laid_over d t) k) refl there
    where
      by_node : (o : Option Node) → get (laid_over d t) k ≡ o → IsSome o → In x own_list
      by_node None e i = absurd cc
      by_node (Some n) e i = has_in x own_list (name_stands d paths p k x path up last t low n (sym (get-laid_over d t k) ∙ e))
