-- Lists of names, and the names of a directory.
--     IsNameList-push      what `add` leaves
--     children_are         what the index has at a path are the paths right under it
--     IsNameList-names     the names of a tree's directory are a list of names
use Rattle.std.proofs.Common.{◌≡◌, ◌<◌, ◌-◌, ℕ, zero, suc, Bool, true, false, cond, ◌&&◌, List, [], ◌∷◌, ◌++◌, Option, Some, None, length, get_or, slice_get, map, refl, sym, ap, subst, ◌∙◌, arith}
use Rattle.std.specs.Prelude.{T, IsSome, IfSome, filter_map}
use Rattle.std.specs.declared.cmp.Ordering.{Ordering}
use Rattle.std.specs.declared.cmp.Ordering.TheVariants.{Less, Equal, Greater}
use Rattle.std.specs.Ordering.{is_lt}
use Rattle.std.specs.Cmp.{eq_by_cmp_equiv}
use Rattle.std.specs.Cmp.Lexicographic.{nat_list_cmp_total}
use Rattle.std.specs.List.{AllByRecursion, filter, list_any, cons_option}
use Rattle.std.specs.List.Sorted.{IsStrictlySortedBy}
use Rattle.std.specs.BTreeMap.{is_at}
use Rattle.std.specs.BTreeSet.{BTreeSet, contains}
use Rattle.std.specs.FinMap.{FinMap, get, keys, entries, entries_sorted, contains_key, contains_key-keys, is_sorted}
use Rattle.std.specs.FinMap.Entries.{below_all}
use Rattle.std.proofs.lemmas.List.{get_or_default}
use Rattle.std.proofs.lemmas.List.Elements.{All-push, All-nil, recursion_from_All, All-from_recursion}
use Rattle.std.proofs.lemmas.List.Kept.{IsStrictlySortedBy-filter}
use Rattle.std.proofs.lemmas.Map.Views.{any-filter_same, list_any-from_Contains}
use Rattle.std.proofs.lemmas.Map.Lookups.{btree_set_from_contains}
use Rattle.std.proofs.lemmas.Slice.Eq.{bytes_eq-Decides}
use Rattle.em_path.specs.Paths.{IsPath, IsComponent, child_text, parent_text, last_of}
use Rattle.em_path.proofs.Spelling.{as_child, order_child}
use Rattle.em_tree.specs.Trees.{Table, IsTree}
use Rattle.em_tree.specs.Index.{is_parent, is_text}
use Rattle.em_tree.specs.Names.{IsNameList, last_name, children_of}
use Rattle.em_tree.proofs.Maps.{order, exact}
use Rattle.em_tree.proofs.Tables.{same_key}

-- ---- one name more

all_push : {X : Type 0} (P : X → Type 0) (xs : List X) (x : X) → AllByRecursion P xs → P x → AllByRecursion P (xs ++ x ∷ [])
all_push P [] x h p = (p, tt)
all_push P (y ∷ ys) x h p = (h.0, all_push P ys x h.1 p)

holds_last : {X : Type 0} (P : X → Type 0) (xs : List X) (x : X) → AllByRecursion P (xs ++ x ∷ []) → P x
holds_last P [] x h = h.0
holds_last P (y ∷ ys) x h = holds_last P ys x h.1

last_tail : (a b : List ℕ) (xs : List (List ℕ)) → last_name (a ∷ b ∷ xs) ≡ last_name (b ∷ xs)
last_tail a b xs = let e : length (a ∷ b ∷ xs) - 1 ≡ suc (length (b ∷ xs) - 1) = omega arith in ap (slice_get (a ∷ b ∷ xs)) e

rising-push : (xs : List (List ℕ)) (x : List ℕ) → IsStrictlySortedBy order xs → IfSome (last_name xs) (λ l. order l x ≡ Less) → IsStrictlySortedBy order (xs ++ x ∷ [])
unfolding IsStrictlySortedBy
rising-push [] x s g = (tt, tt)
rising-push (a ∷ []) x s g = ((g, tt), (tt, tt))
rising-push (a ∷ b ∷ xs) x s g =
    let rest = rising-push (b ∷ xs) x s.1 (subst (λ (o : Option (List ℕ)). IfSome o (λ l. order l x ≡ Less)) (last_tail a b xs) g) in
    let above = nat_list_cmp_total.trans a b x s.0.0 (holds_last (λ y. order b y ≡ Less) xs x rest.0) in
    (all_push (λ y. order a y ≡ Less) (b ∷ xs) x s.0 above, rest)

pub IsNameList-push : (xs : List (List ℕ)) (x : List ℕ) → IsNameList xs → IsComponent x → IfSome (last_name xs) (λ l. order l x ≡ Less) → IsNameList (xs ++ x ∷ [])
IsNameList-push xs x h name g = record { components = All-push IsComponent xs x h.components name; rising = rising-push xs x h.rising g }

pub IsNameList-none : IsNameList []
unfolding IsStrictlySortedBy
IsNameList-none = record { components = All-nil IsComponent; rising = tt }

-- ---- a name in a list of names

front_below : (x : List ℕ) (xs : List (List ℕ)) (y : List ℕ) (ys : List (List ℕ)) → AllByRecursion (λ z. order x z ≡ Less) (xs ++ y ∷ ys) → order x y ≡ Less
front_below x [] y ys h = h.0
front_below x (z ∷ xs) y ys h = front_below x xs y ys h.1

pub all_below : (xs : List (List ℕ)) (y : List ℕ) (ys : List (List ℕ)) → IsStrictlySortedBy order (xs ++ y ∷ ys) → AllByRecursion (λ x. order x y ≡ Less) xs
unfolding IsStrictlySortedBy
all_below [] y ys s = tt
all_below (x ∷ xs) y ys s = (front_below x xs y ys s.0, all_below xs y ys s.1)

pub at_place : (P : List ℕ → Type 0) (xs : List (List ℕ)) (i : ℕ) → AllByRecursion P xs → IfSome (slice_get xs i) P
at_place P [] i h = tt
at_place P (x ∷ xs) zero h = h.0
at_place P (x ∷ xs) (suc i) h = at_place P xs i h.1

part_holds : (P : List ℕ → Type 0) (xs : List (List ℕ)) (y : List ℕ) (ys : List (List ℕ)) → AllByRecursion P (xs ++ y ∷ ys) → P y
part_holds P [] y ys h = h.0
part_holds P (x ∷ xs) y ys h = part_holds P xs y ys h.1

pub name_component : (xs : List (List ℕ)) (y : List ℕ) (ys : List (List ℕ)) → IsNameList (xs ++ y ∷ ys) → IsComponent y
name_component xs y ys h = part_holds IsComponent xs y ys (recursion_from_All IsComponent (xs ++ y ∷ ys) h.components)

pub name_greater : (xs : List (List ℕ)) (y : List ℕ) (ys : List (List ℕ)) → IsNameList (xs ++ y ∷ ys) → IfSome (last_name xs) (λ l. order l y ≡ Less)
name_greater xs y ys h = at_place (λ l. order l y ≡ Less) xs (length xs - 1) (all_below xs y ys h.rising)

-- ---- the keys of a table

less_is : (r : Ordering) → T (is_lt r) → r ≡ Less
less_is Less h = refl
less_is Equal h = absurd h
less_is Greater h = absurd h

first_T : (a b : Bool) → T (a && b) → T a
first_T true b h = tt
first_T false b h = absurd h

second_T : (a b : Bool) → T (a && b) → T b
second_T true b h = h
second_T false b h = absurd h

below_keys : {X : Type 0} (x : List ℕ) (es : List (List ℕ × X)) → T (below_all order x es) → AllByRecursion (λ y. order x y ≡ Less) (map (λ e. e.0) es)
below_keys x [] h = tt
below_keys x (e ∷ es) h = (less_is (order x e.0) (first_T (is_lt (order x e.0)) (below_all order x es) h), below_keys x es (second_T (is_lt (order x e.0)) (below_all order x es) h))

sorted_keys : {X : Type 0} (es : List (List ℕ × X)) → T (is_sorted order es) → IsStrictlySortedBy order (map (λ e. e.0) es)
unfolding IsStrictlySortedBy
sorted_keys [] h = tt
sorted_keys (e ∷ es) h = (below_keys e.0 es (first_T (below_all order e.0 es) (is_sorted order es) h), sorted_keys es (second_T (below_all order e.0 es) (is_sorted order es) h))

pub keys_rise : {X : Type 0} (t : FinMap order X) → IsStrictlySortedBy order (keys t)
keys_rise t = sorted_keys (entries t) (entries_sorted t)

-- ---- the paths right under one

pub children_rise : {X : Type 0} (t : FinMap order X) (p : List ℕ) → IsStrictlySortedBy order (children_of t p)
children_rise t p = IsStrictlySortedBy-filter order (is_parent p) (keys t) (keys_rise t)

pub any_child : {X : Type 0} (t : FinMap order X) (p q : List ℕ) → list_any (is_at (order q)) (children_of t p) ≡ (is_parent p q && contains_key t q)
any_child t p q = any-filter_same (is_at (order q)) (is_parent p) (is_parent p q) (λ k e. ap (is_parent p) (sym (same_key q k e))) (keys t) ∙ ap (λ b. is_parent p q && b) (sym (contains_key-keys t q))

pub children_are : {X : Type 0} (t : FinMap order X) (p : List ℕ) (s : BTreeSet (List ℕ)) → IsStrictlySortedBy order s.keys → ((k : List ℕ) → contains order s k ≡ (is_parent p k && contains_key t k)) → s.keys ≡ children_of t p
children_are t p s rise e = let mine : BTreeSet (List ℕ) = record { keys = children_of t p } in btree_set_from_contains nat_list_cmp_total s mine rise (children_rise t p) (λ q. e q ∙ sym (any_child t p q)) exact

-- ---- their names

filter_all : (P : List ℕ → Type 0) (f : List ℕ → Bool) (ks : List (List ℕ)) → AllByRecursion P ks → AllByRecursion (λ k. P k × (f k ≡ true)) (filter f ks)
filter_all P f [] h = tt
filter_all P f (k ∷ ks) h = by_case (f k) refl (filter_all P f ks h.1)
  where
    by_case : (b : Bool) → f k ≡ b → AllByRecursion (λ k. P k × (f k ≡ true)) (filter f ks) → AllByRecursion (λ k. P k × (f k ≡ true)) (cond b (k ∷ filter f ks) (filter f ks))
    by_case true e r = ((h.0, e), r)
    by_case false e r = r

pub parent_said : (o : Option (List ℕ)) (p : List ℕ) → is_text o p ≡ true → o ≡ Some p
parent_said None p e = cc
parent_said (Some q) p e = ap (λ x. Some x) ((bytes_eq-Decides q p).0 e)

has_key : (t : Table) (i : ℕ) (d : List ℕ) → i < length (keys t) → IsSome (get t (get_or (keys t) i d))
has_key t i d l =
    let q = get_or (keys t) i d in
    contains_key-keys t q ∙ list_any-from_Contains (eq_by_cmp_equiv nat_list_cmp_total) q (keys t) (i, l, get_or_default (keys t) i q d l)

all_paths : (t : Table) → IsTree t → AllByRecursion IsPath (keys t)
all_paths t h = recursion_from_All IsPath (keys t) (λ i d l. h.paths (get_or (keys t) i d) (has_key t i d l))

record Named (p : List ℕ) (ks : List (List ℕ)) : Type 0 where
  names : List (List ℕ)
  made : ks ≡ map (child_text p) names
  last : filter_map last_of ks ≡ names
  good : AllByRecursion IsComponent names

named : (p : List ℕ) (ks : List (List ℕ)) → AllByRecursion (λ k. IsPath k × (is_parent p k ≡ true)) ks → Named p ks
named p [] h = record { names = []; made = refl; last = refl; good = tt }
named p (k ∷ ks) h =
    let rest = named p ks h.1 in
    let c = as_child k p h.0.0 (parent_said (parent_text k) p h.0.1) in
    record {
      names = c.0 ∷ rest.names;
      made = ap (λ (x : List ℕ). x ∷ ks) c.1.text ∙ ap (λ (xs : List (List ℕ)). child_text p c.0 ∷ xs) rest.made;
      last = ap (λ (o : Option (List ℕ)). cons_option o (filter_map last_of ks)) c.1.last ∙ ap (λ (xs : List (List ℕ)). c.0 ∷ xs) rest.last;
      good = (c.1.name, rest.good);
    }

names_below : (p x : List ℕ) (xs : List (List ℕ)) → AllByRecursion (λ y. order (child_text p x) y ≡ Less) (map (child_text p) xs) → AllByRecursion (λ y. order x y ≡ Less) xs
names_below p x [] h = tt
names_below p x (y ∷ ys) h = (sym (order_child p x y) ∙ h.0, names_below p x ys h.1)

names_rise : (p : List ℕ) (xs : List (List ℕ)) → IsStrictlySortedBy order (map (child_text p) xs) → IsStrictlySortedBy order xs
unfolding IsStrictlySortedBy
names_rise p [] h = tt
names_rise p (x ∷ xs) h = (names_below p x xs h.0, names_rise p xs h.1)

pub IsNameList-names : (t : Table) (p : List ℕ) → IsTree t → IsNameList (filter_map last_of (children_of t p))
IsNameList-names t p h =
    let n = named p (children_of t p) (filter_all IsPath (is_parent p) (keys t) (all_paths t h)) in
    subst (λ (xs : List (List ℕ)). IsNameList xs) (sym n.last) (record {
      components = All-from_recursion IsComponent n.names n.good;
      rising = names_rise p n.names (subst (λ (ks : List (List ℕ)). IsStrictlySortedBy order ks) n.made (children_rise t p));
    })

-- a name on the way through the paths
pub names_left : (names : List (List ℕ)) (left next whole : List (List ℕ)) (path name : List ℕ) → names ++ filter_map last_of left ≡ whole → left ≡ path ∷ next → Some name ≡ last_of path → IsNameList whole → IsNameList (names ++ name ∷ filter_map last_of next)
names_left names left next whole path name e step last h =
    let is : filter_map last_of left ≡ name ∷ filter_map last_of next = ap (filter_map last_of) step ∙ ap (λ (o : Option (List ℕ)). cons_option o (filter_map last_of next)) (sym last) in
    subst (λ (xs : List (List ℕ)). IsNameList xs) (sym e ∙ ap (λ (xs : List (List ℕ)). names ++ xs) is) h

rising-none : IsStrictlySortedBy order []
unfolding IsStrictlySortedBy
rising-none = tt

-- where the index has nothing, nothing is there
pub children_none : {X : Type 0} (t : FinMap order X) (p : List ℕ) → ((k : List ℕ) → false ≡ (is_parent p k && contains_key t k)) → [] ≡ children_of t p
children_none t p e = let none : BTreeSet (List ℕ) = record { keys = [] } in children_are t p none rising-none e
