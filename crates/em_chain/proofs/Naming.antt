-- The names right under a path.
--     listing_of_tree, listing_of_none      those of a tree
--     listing_put, listing_gone             one path more, one less
--     listing_touched                       the paths right under one that posts name are all that they change there
--     names_listed                          what is answered
use Rattle.std.proofs.Common.{◌≡◌, ◌<◌, ℕ, Bool, true, false, cond, not, ◌&&◌, ◌||◌, List, [], ◌∷◌, ◌++◌, Option, Some, None, All, map, length, get_or, take, drop, suc, ◌+◌, add-one, take-append-drop, drop-cons, refl, sym, ap, subst, ◌∙◌}
use Rattle.std.proofs.Math.Seq.{take-suc}
use Rattle.std.specs.Prelude.{IsSome, IfSome, is_some, filter_map}
use Rattle.std.specs.declared.cmp.Ordering.{Ordering}
use Rattle.std.specs.declared.cmp.Ordering.TheVariants.{Less, Equal, Greater}
use Rattle.std.specs.Ordering.{eq_by_cmp, is_eq, match_ordering, ordering_reverse}
use Rattle.std.specs.Cmp.{eq_by_cmp_equiv, tied_itself}
use Rattle.std.specs.Cmp.Lexicographic.{nat_list_cmp_total}
use Rattle.std.specs.List.{AllByRecursion, filter, list_any, cons_option}
use Rattle.std.specs.List.Sorted.{IsStrictlySortedBy}
use Rattle.std.specs.BTreeMap.{is_at}
use Rattle.std.specs.BTreeSet.{BTreeSet, insert_key}
use Rattle.std.specs.Set.{remove_key}
use Rattle.std.specs.FinMap.{FinMap, get, insert, remove, keys, contains_key, contains_key-keys, get-insert, get-remove}
use Rattle.std.proofs.lemmas.List.{get_or_default}
use Rattle.std.proofs.lemmas.List.Elements.{recursion_from_All}
use Rattle.std.proofs.lemmas.Map.Views.{list_any-from_Contains, All-insert_key, All-remove_key}
use Rattle.std.proofs.lemmas.Slice.Eq.{bytes_eq-Decides}
use Rattle.em_path.specs.Paths.{IsPath, IsComponent, child_text, components, parent_text, last_of}
use Rattle.em_path.proofs.Spelling.{as_child, order_child, child_last}
use Rattle.em_tree.specs.declared.node.Kind.{Kind}
use Rattle.em_tree.specs.declared.node.Kind.TheVariants as kind
use Rattle.em_tree.specs.declared.node.Node.{Node}
use Rattle.em_tree.specs.Trees.{Table, IsTree, kind_of}
use Rattle.em_tree.specs.Index.{is_parent, is_text}
use Rattle.em_tree.specs.Names.{IsNameList, children_of, in_dir, names_of}
use Rattle.em_tree.proofs.Maps.{order}
use Rattle.em_tree.proofs.Tables.{same_key}
use Rattle.em_tree.proofs.Laying.{over, get-changed}
use Rattle.em_tree.proofs.Lawful.{same_children}
use Rattle.em_tree.proofs.Naming.{any_child, children_are, children_none, parent_said, IsNameList-none, at_place, all_below}
use Rattle.em_chain.specs.Listing.{IsListing, changed_by, changed_at}

-- ---- keys in order

abbrev has : List ℕ → List (List ℕ) → Bool
has q ks = list_any (is_at (order q)) ks

itself : (q : List ℕ) → eq_by_cmp order q q ≡ true
itself q = ap is_eq (tied_itself nat_list_cmp_total q)

or_again : (a b : Bool) → (a || b) ≡ (a || (a || b))
or_again true b = refl
or_again false b = refl

or_swap : (a b c : Bool) → (a || (b || c)) ≡ (b || (a || c))
or_swap true true c = refl
or_swap true false c = refl
or_swap false true c = refl
or_swap false false c = refl

is_equal : (r : Ordering) → r ≡ Equal → is_eq r ≡ true
is_equal r e = ap is_eq e

has_insert : (q k : List ℕ) (ks : List (List ℕ)) → has q (insert_key order ks k) ≡ (eq_by_cmp order q k || has q ks)
has_insert q k [] = refl
has_insert q k (x ∷ ks) = by_case (order k x) refl (has_insert q k ks)
  where
    by_case : (r : Ordering) → order k x ≡ r → has q (insert_key order ks k) ≡ (eq_by_cmp order q k || has q ks)
        → has q (match_ordering r (k ∷ x ∷ ks) (x ∷ ks) (x ∷ insert_key order ks k)) ≡ (eq_by_cmp order q k || (eq_by_cmp order q x || has q ks))
    by_case Less e more = refl
    by_case Equal e more =
        let same : k ≡ x = same_key k x (is_equal (order k x) e) in
        or_again (eq_by_cmp order q x) (has q ks) ∙ ap (λ (y : List ℕ). eq_by_cmp order q y || (eq_by_cmp order q x || has q ks)) (sym same)
    by_case Greater e more = ap (λ b. eq_by_cmp order q x || b) more ∙ or_swap (eq_by_cmp order q x) (eq_by_cmp order q k) (has q ks)

-- a key below all others isn't among them
not_among : (x : List ℕ) (ks : List (List ℕ)) → AllByRecursion (λ y. order x y ≡ Less) ks → has x ks ≡ false
not_among x [] h = refl
not_among x (y ∷ ks) h = ap (λ r. is_eq r || has x ks) h.0 ∙ not_among x ks h.1

has_remove : (q k : List ℕ) (ks : List (List ℕ)) → IsStrictlySortedBy order ks → has q (remove_key (is_at (order k)) ks) ≡ (not (eq_by_cmp order q k) && has q ks)
unfolding IsStrictlySortedBy
has_remove q k [] h = none (not (eq_by_cmp order q k))
  where
    none : (b : Bool) → false ≡ (b && false)
    none true = refl
    none false = refl
has_remove q k (x ∷ ks) h = by_case (eq_by_cmp order k x) refl (has_remove q k ks h.1)
  where
    at_key : (b : Bool) → eq_by_cmp order q x ≡ b → has q ks ≡ (not b && (b || has q ks))
    at_key true e = ap (λ (y : List ℕ). has y ks) (same_key q x e) ∙ not_among x ks h.0
    at_key false e = refl

    apart : (b c : Bool) → eq_by_cmp order q k ≡ b → eq_by_cmp order q x ≡ c → eq_by_cmp order k x ≡ false → (c || (not b && has q ks)) ≡ (not b && (c || has q ks))
    apart true true e f g = let z : eq_by_cmp order k x ≡ true = ap (λ (y : List ℕ). eq_by_cmp order y x) (sym (same_key q k e)) ∙ f in cc
    apart true false e f g = refl
    apart false c e f g = refl

    by_case : (b : Bool) → eq_by_cmp order k x ≡ b → has q (remove_key (is_at (order k)) ks) ≡ (not (eq_by_cmp order q k) && has q ks)
        → has q (cond b ks (x ∷ remove_key (is_at (order k)) ks)) ≡ (not (eq_by_cmp order q k) && (eq_by_cmp order q x || has q ks))
    by_case true e more = at_key (eq_by_cmp order q x) refl ∙ ap (λ (y : List ℕ). not (eq_by_cmp order q y) && (eq_by_cmp order q x || has q ks)) (sym (same_key k x e))
    by_case false e more = ap (λ b. eq_by_cmp order q x || b) more ∙ apart (eq_by_cmp order q k) (eq_by_cmp order q x) refl refl e

-- ---- the children that have these names

insert_child : (p : List ℕ) (ns : List (List ℕ)) (n : List ℕ) → map (child_text p) (insert_key order ns n) ≡ insert_key order (map (child_text p) ns) (child_text p n)
insert_child p [] n = refl
insert_child p (x ∷ ns) n = by_case (order n x) (insert_child p ns n) ∙ ap (λ r. match_ordering r (child_text p n ∷ child_text p x ∷ map (child_text p) ns) (child_text p x ∷ map (child_text p) ns) (child_text p x ∷ insert_key order (map (child_text p) ns) (child_text p n))) (sym (order_child p n x))
  where
    by_case : (r : Ordering) → map (child_text p) (insert_key order ns n) ≡ insert_key order (map (child_text p) ns) (child_text p n)
        → map (child_text p) (match_ordering r (n ∷ x ∷ ns) (x ∷ ns) (x ∷ insert_key order ns n))
        ≡ match_ordering r (child_text p n ∷ child_text p x ∷ map (child_text p) ns) (child_text p x ∷ map (child_text p) ns) (child_text p x ∷ insert_key order (map (child_text p) ns) (child_text p n))
    by_case Less more = refl
    by_case Equal more = refl
    by_case Greater more = ap (λ (ks : List (List ℕ)). child_text p x ∷ ks) more

remove_child : (p : List ℕ) (ns : List (List ℕ)) (n : List ℕ) → map (child_text p) (remove_key (is_at (order n)) ns) ≡ remove_key (is_at (order (child_text p n))) (map (child_text p) ns)
remove_child p [] n = refl
remove_child p (x ∷ ns) n = by_case (is_eq (order n x)) (remove_child p ns n) ∙ ap (λ r. cond (is_eq r) (map (child_text p) ns) (child_text p x ∷ remove_key (is_at (order (child_text p n))) (map (child_text p) ns))) (sym (order_child p n x))
  where
    by_case : (b : Bool) → map (child_text p) (remove_key (is_at (order n)) ns) ≡ remove_key (is_at (order (child_text p n))) (map (child_text p) ns)
        → map (child_text p) (cond b ns (x ∷ remove_key (is_at (order n)) ns)) ≡ cond b (map (child_text p) ns) (child_text p x ∷ remove_key (is_at (order (child_text p n))) (map (child_text p) ns))
    by_case true more = refl
    by_case false more = ap (λ (ks : List (List ℕ)). child_text p x ∷ ks) more

below_child : (p x : List ℕ) (xs : List (List ℕ)) → AllByRecursion (λ y. order x y ≡ Less) xs → AllByRecursion (λ y. order (child_text p x) y ≡ Less) (map (child_text p) xs)
below_child p x [] h = tt
below_child p x (y ∷ ys) h = (order_child p x y ∙ h.0, below_child p x ys h.1)

children_rise : (p : List ℕ) (ns : List (List ℕ)) → IsStrictlySortedBy order ns → IsStrictlySortedBy order (map (child_text p) ns)
unfolding IsStrictlySortedBy
children_rise p [] h = tt
children_rise p (x ∷ ns) h = (below_child p x ns h.0, children_rise p ns h.1)

-- ---- one path more, one less

named_is : (p k : List ℕ) → parent_text k ≡ Some p → is_parent p k ≡ true
named_is p k up = ap (λ (o : Option (List ℕ)). is_text o p) up ∙ (bytes_eq-Decides p p).1 refl

-- the names after a change are the ones that the table then has
changed_listing : (p : List ℕ) (u : Table) (ns : List (List ℕ)) → IsNameList ns → ((q : List ℕ) → has q (map (child_text p) ns) ≡ (is_parent p q && contains_key u q)) → IsListing p u ns
changed_listing p u ns named e =
    let s : BTreeSet (List ℕ) = record { keys = map (child_text p) ns } in
    record { names = named; children = sym (children_are u p s (children_rise p ns named.rising) e) }

had : (p : List ℕ) (t : Table) (ns : List (List ℕ)) → IsListing p t ns → (q : List ℕ) → has q (map (child_text p) ns) ≡ (is_parent p q && contains_key t q)
had p t ns h q = ap (has q) (sym h.children) ∙ any_child t p q

module _ (p k n : List ℕ) (t : Table) (ns ms : List (List ℕ)) (path : IsPath k) (up : parent_text k ≡ Some p) (last : Some n ≡ last_of k) (named : IsNameList ms) (h : IsListing p t ns) where
  child_is : k ≡ child_text p n
  child_is =
      let c = as_child k p path up in
      let same : c.0 ≡ n = (let z : Some c.0 ≡ Some n = sym c.1.last ∙ sym last in cc) in
      c.1.text ∙ ap (child_text p) same

  put_at : (v : Node) (q : List ℕ) (b : Bool) → eq_by_cmp order q k ≡ b → (b || (is_parent p q && contains_key t q)) ≡ (is_parent p q && is_some (cond b (Some v) (get t q)))
  put_at v q true e = sym (ap (λ c. c && true) (ap (is_parent p) (same_key q k e) ∙ named_is p k up))
  put_at v q false e = refl

  pub listing_put : (v : Node) → ms ≡ insert_key order ns n → IsListing p (insert t k v) ms
  listing_put v e = changed_listing p (insert t k v) ms named (λ q.
      ap (λ (xs : List (List ℕ)). has q (map (child_text p) xs)) e ∙ ap (has q) (insert_child p ns n)
      ∙ ap (λ (x : List ℕ). has q (insert_key order (map (child_text p) ns) x)) (sym child_is)
      ∙ has_insert q k (map (child_text p) ns) ∙ ap (λ b. eq_by_cmp order q k || b) (had p t ns h q) ∙ put_at v q (eq_by_cmp order q k) refl
      ∙ ap (λ (o : Option Node). is_parent p q && is_some o) (sym (get-insert nat_list_cmp_total t k v q)))

  gone_at : (q : List ℕ) (b c : Bool) → (not b && (c && contains_key t q)) ≡ (c && is_some (cond b None (get t q)))
  gone_at q true true = refl
  gone_at q true false = refl
  gone_at q false c = refl

  pub listing_gone : ms ≡ remove_key (is_at (order n)) ns → IsListing p (remove t k) ms
  listing_gone e = changed_listing p (remove t k) ms named (λ q.
      ap (λ (xs : List (List ℕ)). has q (map (child_text p) xs)) e ∙ ap (has q) (remove_child p ns n)
      ∙ ap (λ (x : List ℕ). has q (remove_key (is_at (order x)) (map (child_text p) ns))) (sym child_is)
      ∙ has_remove q k (map (child_text p) ns) (children_rise p ns h.names.rising) ∙ ap (λ b. not (eq_by_cmp order q k) && b) (had p t ns h q) ∙ gone_at q (eq_by_cmp order q k) (is_parent p q)
      ∙ ap (λ (o : Option Node). is_parent p q && is_some o) (sym (get-remove nat_list_cmp_total t k q)))

-- the root is no child
pub no_last : (k p : List ℕ) → IsPath k → None ≡ last_of k → parent_text k ≡ Some p → ⊥
no_last k p path none up = let c = as_child k p path up in let z : None ≡ Some c.0 = none ∙ c.1.last in cc

-- ---- a name put in or taken out leaves names

pub component_of : (k n : List ℕ) → IsPath k → Some n ≡ last_of k → IsComponent n
component_of k n path e = subst (λ (o : Option (List ℕ)). IfSome o IsComponent) (sym e) (at_place IsComponent (components k) _ (recursion_from_All IsComponent (components k) path.names))

pub named_insert : (ns : List (List ℕ)) (n : List ℕ) (ms : List (List ℕ)) → ms ≡ insert_key order ns n → IsStrictlySortedBy order ms → IsNameList ns → IsComponent n → IsNameList ms
named_insert ns n ms e rise h name = record { components = subst (λ (xs : List (List ℕ)). All IsComponent xs) (sym e) (All-insert_key order n IsComponent ns h.components name); rising = rise }

pub named_remove : (ns : List (List ℕ)) (test : List ℕ → Bool) (ms : List (List ℕ)) → ms ≡ remove_key test ns → IsStrictlySortedBy order ms → IsNameList ns → IsNameList ms
named_remove ns test ms e rise h = record { components = subst (λ (xs : List (List ℕ)). All IsComponent xs) (sym e) (All-remove_key test IsComponent ns h.components); rising = rise }

-- ---- a list of names put into a set, one after another

insert_last : (xs : List (List ℕ)) (y : List ℕ) → AllByRecursion (λ x. order x y ≡ Less) xs → insert_key order xs y ≡ xs ++ y ∷ []
insert_last [] y h = refl
insert_last (x ∷ xs) y h =
    let above : order y x ≡ Greater = nat_list_cmp_total.antisymm y x ∙ ap ordering_reverse h.0 in
    ap (λ r. match_ordering r (y ∷ x ∷ xs) (x ∷ xs) (x ∷ insert_key order xs y)) above ∙ ap (λ (l : List (List ℕ)). x ∷ l) (insert_last xs y h.1)

pub next_name : (ns : List (List ℕ)) (i : ℕ) (x : List ℕ) → IsNameList ns → i < length ns → x ≡ get_or ns i x → insert_key order (take i ns) x ≡ take (i + 1) ns
next_name ns i x h l e =
    let rest : drop i ns ≡ x ∷ drop (suc i) ns = drop-cons ns i x l ∙ ap (λ (y : List ℕ). y ∷ drop (suc i) ns) (sym e) in
    let whole : ns ≡ take i ns ++ x ∷ drop (suc i) ns = sym (take-append-drop i ns) ∙ ap (λ (r : List (List ℕ)). take i ns ++ r) rest in
    let below = all_below (take i ns) x (drop (suc i) ns) (subst (λ (xs : List (List ℕ)). IsStrictlySortedBy order xs) whole h.rising) in
    insert_last (take i ns) x below ∙ ap (λ (y : List ℕ). take i ns ++ y ∷ []) e ∙ sym (take-suc ns i x l) ∙ ap (λ k. take k ns) (sym (add-one i))

-- ---- a delta

pub parents_are : (p : List ℕ) (ks : List (List ℕ)) → AllByRecursion (λ k. parent_text k ≡ Some p) (filter (is_parent p) ks)
parents_are p [] = tt
parents_are p (k ∷ ks) = by_case (is_parent p k) refl (parents_are p ks)
  where
    by_case : (b : Bool) → is_parent p k ≡ b → AllByRecursion (λ k. parent_text k ≡ Some p) (filter (is_parent p) ks) → AllByRecursion (λ k. parent_text k ≡ Some p) (cond b (k ∷ filter (is_parent p) ks) (filter (is_parent p) ks))
    by_case true e h = (parent_said (parent_text k) p e, h)
    by_case false e h = h

get-changed_by : (c : Option (Option Node)) (q : List ℕ) (t : Table) (k : List ℕ) → get (changed_by c q t) k ≡ cond (eq_by_cmp order k q) (over c (get t k)) (get t k)
get-changed_by None q t k = by_case (eq_by_cmp order k q)
  where
    by_case : (b : Bool) → get t k ≡ cond b (get t k) (get t k)
    by_case true = refl
    by_case false = refl
get-changed_by (Some c) q t k = get-changed t q c k

-- the paths are changed as the delta says, and no others
get-changed_at : (f : List ℕ → Option (Option Node)) (qs : List (List ℕ)) (t : Table) (k : List ℕ) → get (changed_at f qs t) k ≡ cond (has k qs) (over (f k) (get t k)) (get t k)
get-changed_at f [] t k = refl
get-changed_at f (q ∷ qs) t k =
    get-changed_at f qs (changed_by (f q) q t) k ∙ ap (λ (o : Option Node). cond (has k qs) (over (f k) o) o) (get-changed_by (f q) q t k) ∙ by_case (eq_by_cmp order k q) refl (has k qs)
  where
    twice : (c : Option (Option Node)) (o : Option Node) → over c (over c o) ≡ over c o
    twice None o = refl
    twice (Some c) o = refl

    by_case : (b : Bool) → eq_by_cmp order k q ≡ b → (e : Bool)
        → cond e (over (f k) (cond b (over (f q) (get t k)) (get t k))) (cond b (over (f q) (get t k)) (get t k)) ≡ cond (b || e) (over (f k) (get t k)) (get t k)
    by_case true g true = ap (λ (x : List ℕ). over (f k) (over (f x) (get t k))) (sym (same_key k q g)) ∙ twice (f k) (get t k)
    by_case true g false = ap (λ (x : List ℕ). over (f x) (get t k)) (sym (same_key k q g))
    by_case false g e = refl

-- the children of p whose chains aren't empty become what f says, and f says nothing of the others
module _ {X : Type 0} (f : List ℕ → Option (Option Node)) (m : FinMap order X) (t u : Table) (p : List ℕ) (at : (k : List ℕ) → get u k ≡ over (f k) (get t k)) (none : (k : List ℕ) → get m k ≡ None → f k ≡ None) where
  touched_children : children_of (changed_at f (children_of m p) t) p ≡ children_of u p
  touched_children = same_children (changed_at f (children_of m p) t) u p (λ k up. ap is_some (
      get-changed_at f (children_of m p) t k ∙ ap (λ b. cond b (over (f k) (get t k)) (get t k)) (any_child m p k ∙ ap (λ b. b && contains_key m k) (named_is p k up))
      ∙ by_case k (get m k) refl ∙ sym (at k)))
    where
      by_case : (k : List ℕ) (o : Option X) → get m k ≡ o → cond (is_some o) (over (f k) (get t k)) (get t k) ≡ over (f k) (get t k)
      by_case k None e = ap (λ c. over c (get t k)) (sym (none k e))
      by_case k (Some x) e = refl

  pub listing_touched : (ns : List (List ℕ)) → IsListing p (changed_at f (children_of m p) t) ns → IsListing p u ns
  listing_touched ns h = record { names = h.names; children = sym touched_children ∙ h.children }

  pub listing_untouched : (ns : List (List ℕ)) → [] ≡ children_of m p → IsListing p t ns → IsListing p u ns
  listing_untouched ns e h = listing_touched ns (subst (λ (qs : List (List ℕ)). IsListing p (changed_at f qs t) ns) e h)

-- ---- a tree

has_key : (t : Table) (i : ℕ) (d : List ℕ) → i < length (keys t) → IsSome (get t (get_or (keys t) i d))
has_key t i d l =
    let q = get_or (keys t) i d in
    contains_key-keys t q ∙ list_any-from_Contains (eq_by_cmp_equiv nat_list_cmp_total) q (keys t) (i, l, get_or_default (keys t) i q d l)

all_paths : (t : Table) → IsTree t → AllByRecursion IsPath (keys t)
all_paths t h = recursion_from_All IsPath (keys t) (λ i d l. h.paths (get_or (keys t) i d) (has_key t i d l))

-- each is the child that has its last component as its name
children_named : (p : List ℕ) (ks : List (List ℕ)) → AllByRecursion IsPath ks → filter (is_parent p) ks ≡ map (child_text p) (filter_map last_of (filter (is_parent p) ks))
children_named p [] h = refl
children_named p (k ∷ ks) h = by_case (is_parent p k) refl (children_named p ks h.1)
  where
    by_case : (b : Bool) → is_parent p k ≡ b → filter (is_parent p) ks ≡ map (child_text p) (filter_map last_of (filter (is_parent p) ks))
        → cond b (k ∷ filter (is_parent p) ks) (filter (is_parent p) ks) ≡ map (child_text p) (filter_map last_of (cond b (k ∷ filter (is_parent p) ks) (filter (is_parent p) ks)))
    by_case true e more =
        let c = as_child k p h.0 (parent_said (parent_text k) p e) in
        ap (λ (x : List ℕ). x ∷ filter (is_parent p) ks) c.1.text ∙ ap (λ (xs : List (List ℕ)). child_text p c.0 ∷ xs) more
        ∙ ap (λ (o : Option (List ℕ)). map (child_text p) (cons_option o (filter_map last_of (filter (is_parent p) ks)))) (sym c.1.last)
    by_case false e more = more

told_names : (o : Kind) (ms ns : List (List ℕ)) → in_dir o ms ≡ Some ns → ms ≡ ns
told_names kind.Absent ms ns e = cc
told_names kind.File ms ns e = cc
told_names kind.Dir ms ns e = cc
told_names kind.Link ms ns e = cc

pub listing_of_tree : (t : Table) (p : List ℕ) (ns : List (List ℕ)) → IsTree t → names_of t p ≡ Some ns → IsNameList ns → IsListing p t ns
listing_of_tree t p ns h e named = record { names = named; children = children_named p (keys t) (all_paths t h) ∙ ap (map (child_text p)) (told_names (kind_of (get t p)) (filter_map last_of (children_of t p)) ns e) }

no_dir : (o : Kind) (ms : List (List ℕ)) → in_dir o ms ≡ None → o ≡ kind.Dir → ⊥
no_dir kind.Absent ms e is = cc
no_dir kind.File ms e is = cc
no_dir kind.Dir ms e is = cc
no_dir kind.Link ms e is = cc

pub listing_of_none : (t : Table) (p : List ℕ) → IsTree t → names_of t p ≡ None → IsListing p t []
listing_of_none t p h e = record { names = IsNameList-none; children = sym (children_none t p (λ k. by_case k (is_parent p k) (contains_key t k) refl refl)) }
  where
    by_case : (k : List ℕ) (b c : Bool) → is_parent p k ≡ b → contains_key t k ≡ c → false ≡ (b && c)
    by_case k true true f g = absurd (no_dir (kind_of (get t p)) (filter_map last_of (children_of t p)) e (h.parents k p g (parent_said (parent_text k) p f)))
    by_case k true false f g = refl
    by_case k false c f g = refl

-- ---- what is answered

names_back : (p : List ℕ) (ns : List (List ℕ)) → IsPath p → AllByRecursion IsComponent ns → ns ≡ filter_map last_of (map (child_text p) ns)
names_back p [] path h = refl
names_back p (n ∷ ns) path h = ap (λ (xs : List (List ℕ)). n ∷ xs) (names_back p ns path h.1)
    ∙ ap (λ (o : Option (List ℕ)). cons_option o (filter_map last_of (map (child_text p) ns))) (sym (child_last p n path h.0))

pub names_listed : (t : Table) (p : List ℕ) (ns : List (List ℕ)) → IsPath p → kind_of (get t p) ≡ kind.Dir → IsListing p t ns → Some ns ≡ names_of t p
names_listed t p ns path dir h =
    ap (λ (xs : List (List ℕ)). Some xs) (names_back p ns path (recursion_from_All IsComponent ns h.names.components) ∙ ap (filter_map last_of) (sym h.children))
    ∙ ap (λ (o : Kind). in_dir o (filter_map last_of (children_of t p))) (sym dir)

-- ---- on the way through the paths of a delta

pub listing_step : (f : List ℕ → Option (Option Node)) (p : List ℕ) (its next : List (List ℕ)) (u w : Table) (q : List ℕ) (c : Option (Option Node)) (ms : List (List ℕ))
    → its ≡ q ∷ next → c ≡ f q → changed_at f its u ≡ w → AllByRecursion (λ k. parent_text k ≡ Some p) its → (parent_text q ≡ Some p → IsListing p (changed_by c q u) ms)
    → (x : Table) × (changed_at f next x ≡ w) × AllByRecursion (λ k. parent_text k ≡ Some p) next × IsListing p x ms
listing_step f p its next u w q c ms e is goes ups more =
    let here = subst (AllByRecursion (λ k. parent_text k ≡ Some p)) e ups in (
      changed_by c q u,
      ap (λ (b : Option (Option Node)). changed_at f next (changed_by b q u)) is ∙ sym (ap (λ (qs : List (List ℕ)). changed_at f qs u) e) ∙ goes,
      here.1,
      more here.0,
    )

pub parents_of : {X : Type 0} (p : List ℕ) (m : FinMap order X) (qs : List (List ℕ)) → qs ≡ children_of m p → AllByRecursion (λ k. parent_text k ≡ Some p) qs
parents_of p m qs e = subst (AllByRecursion (λ k. parent_text k ≡ Some p)) (sym e) (parents_are p (keys m))
