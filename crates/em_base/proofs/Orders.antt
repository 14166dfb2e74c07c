-- Items in an order, once each: what a sort by a projection and the dropping of doubles leave.
--     in_order            the items of a list in the order R, once each: the keys of the finite map that has them
--     in_order_is         what rises and has the same items is that
--     sorted_is           so is what is left of a sorted list without doubles
--     in_order_rises, in_order_has      it rises, and has the list's items and no others
use Rattle.std.proofs.Common.{◌≡◌, Bool, true, false, ◌&&◌, List, [], ◌∷◌, map, get_or, Option, Some, None, is_some, refl, sym, ap, subst, ◌∙◌}
use Rattle.std.specs.Prelude.{T, ◌↔◌}
use Rattle.std.specs.declared.cmp.Ordering.{Ordering}
use Rattle.std.specs.declared.cmp.Ordering.TheVariants.{Less, Equal, Greater}
use Rattle.std.specs.Ordering.{is_lt, is_eq, eq_by_cmp}
use Rattle.std.specs.Cmp.{IsTotalOrder, IsEquivalence}
use Rattle.std.specs.List.{AllByRecursion, Contains, list_any, dedup}
use Rattle.std.specs.List.Sorted.{IsStrictlySortedBy, IsSorted, IsPermutation}
use Rattle.std.specs.FinMap.{FinMap, IsAntisymmetric, entries, entries_sorted, from_entries, get, get-entries, get-from_entries, same_map, contains_key-keys, is_sorted}
use Rattle.std.specs.FinMap.Entries.{below_all, same_entries, is_some-find}
use Rattle.std.proofs.lemmas.Cmp.{on_total, eq_by_cmp_equiv}
use Rattle.std.proofs.lemmas.List.Folds.{Any-from_list_any, list_any-from_Any}
use Rattle.std.proofs.lemmas.List.Kept.{IsStrictlySortedBy-dedup, Contains-from_dedup, Any-dedup}
use Rattle.std.proofs.lemmas.List.Sorted.{list_any-IsPermutation}
use Rattle.std.proofs.lemmas.Map.Views.{list_any-from_Contains}
use Rattle.em_base.proofs.Lists.{any_map}

same_bool : (a b : Bool) → (a ≡ true → b ≡ true) → (b ≡ true → a ≡ true) → a ≡ b
same_bool true b f g = sym (f refl)
same_bool false true f g = g refl
same_bool false false f g = refl

first_T : (a b : Bool) → T (a && b) → T a
first_T true b h = tt
first_T false b h = h

second_T : (a b : Bool) → T (a && b) → T b
second_T true b h = h
second_T false b h = absurd h

both_T : (a b : Bool) → T a → T b → T (a && b)
both_T true b p q = q
both_T false b p q = p

is_less : (r : Ordering) → T (is_lt r) → r ≡ Less
is_less Less h = refl
is_less Equal h = absurd h
is_less Greater h = absurd h

is_equal : (r : Ordering) → is_eq r ≡ true → r ≡ Equal
is_equal Less h = absurd cc
is_equal Equal h = refl
is_equal Greater h = absurd cc

marked : (a b : Option (Unit {0})) → is_some a ≡ is_some b → a ≡ b
marked None None e = refl
marked None (Some y) e = cc
marked (Some x) None e = cc
marked (Some x) (Some y) e = refl

abbrev marks : {A : Type 0} → List A → List (A × Unit {0})
marks xs = map (λ x. (x, tt)) xs

items_of_marks : {A : Type 0} (xs : List A) → map (λ (e : A × Unit {0}). e.0) (marks xs) ≡ xs
items_of_marks [] = refl
items_of_marks (x ∷ xs) = ap (λ ys. x ∷ ys) (items_of_marks xs)

module _ {A : Type 0} (R : A → A → Ordering) where
  abbrev set_of : List A → FinMap R (Unit {0})
  set_of xs = from_entries {R = R} (marks xs)

  abbrev pub in_order : List A → List A
  in_order xs = map (λ (e : A × Unit {0}). e.0) (entries (set_of xs))

  below_marks : (x : A) (xs : List A) → AllByRecursion (λ y. R x y ≡ Less) xs → T (below_all R x (marks xs))
  below_marks x [] h = tt
  below_marks x (y ∷ ys) h = both_T (is_lt (R x y)) (below_all R x (marks ys)) (subst (λ r. T (is_lt r)) (sym h.0) tt) (below_marks x ys h.1)

  rising_marks : (xs : List A) → IsStrictlySortedBy R xs → T (is_sorted R (marks xs))
  unfolding IsStrictlySortedBy
  rising_marks [] h = tt
  rising_marks (x ∷ xs) h = both_T (below_all R x (marks xs)) (is_sorted R (marks xs)) (below_marks x xs h.0) (rising_marks xs h.1)

  below_items : (x : A) (es : List (A × Unit {0})) → T (below_all R x es) → AllByRecursion (λ y. R x y ≡ Less) (map (λ (e : A × Unit {0}). e.0) es)
  below_items x [] h = tt
  below_items x (e ∷ es) h = (is_less (R x e.0) (first_T (is_lt (R x e.0)) (below_all R x es) h), below_items x es (second_T (is_lt (R x e.0)) (below_all R x es) h))

  rising_items : (es : List (A × Unit {0})) → T (is_sorted R es) → IsStrictlySortedBy R (map (λ (e : A × Unit {0}). e.0) es)
  unfolding IsStrictlySortedBy
  rising_items [] h = tt
  rising_items (e ∷ es) h = (below_items e.0 es (first_T (below_all R e.0 es) (is_sorted R es) h), rising_items es (second_T (below_all R e.0 es) (is_sorted R es) h))

  pub in_order_rises : (xs : List A) → IsStrictlySortedBy R (in_order xs)
  in_order_rises xs = rising_items (entries (set_of xs)) (entries_sorted (set_of xs))

  module _ (o : IsTotalOrder R) where
    finds : (xs : List A) (q : A) → is_some (get (set_of xs) q) ≡ list_any (eq_by_cmp R q) xs
    finds xs q = ap is_some (get-from_entries o (marks xs) q) ∙ is_some-find R q (marks xs) ∙ ap (list_any (eq_by_cmp R q)) (items_of_marks xs)

    in_order_finds : (xs : List A) (q : A) → list_any (eq_by_cmp R q) (in_order xs) ≡ list_any (eq_by_cmp R q) xs
    in_order_finds xs q = sym (contains_key-keys (set_of xs) q) ∙ finds xs q

    module _ (same : IsAntisymmetric R) where
      rising_entries : (xs : List A) → IsStrictlySortedBy R xs → entries (set_of xs) ≡ marks xs
      rising_entries xs h = same_entries R o same (entries (set_of xs)) (marks xs) (entries_sorted (set_of xs)) (rising_marks xs h)
          (λ q. sym (get-entries (set_of xs) q) ∙ get-from_entries o (marks xs) q)

      pub in_order_is : (xs ys : List A) → IsStrictlySortedBy R ys → ((q : A) → list_any (eq_by_cmp R q) ys ≡ list_any (eq_by_cmp R q) xs) → ys ≡ in_order xs
      in_order_is xs ys rising alike =
          let sets : set_of ys ≡ set_of xs = same_map o same (set_of ys) (set_of xs) (λ q. marked _ _ (finds ys q ∙ alike q ∙ sym (finds xs q))) in
          sym (ap (map (λ (e : A × Unit {0}). e.0)) (rising_entries ys rising) ∙ items_of_marks ys) ∙ ap (λ (m : FinMap R (Unit {0})). map (λ (e : A × Unit {0}). e.0) (entries m)) sets

      contained : (xs : List A) (q : A) → list_any (eq_by_cmp R q) xs ≡ true → Contains xs q
      contained xs q h =
          let (k, x, low, is, tied) = Any-from_list_any (eq_by_cmp R q) xs h in
          (k, low, subst (λ v. get_or xs k v ≡ v) (sym (same q x (is_equal _ tied))) is)

      contains_finds : (xs : List A) (q : A) → Contains xs q → list_any (eq_by_cmp R q) xs ≡ true
      contains_finds xs q h = list_any-from_Contains (eq_by_cmp_equiv o) q xs h

      pub in_order_has : (xs : List A) (q : A) → Contains (in_order xs) q ↔ Contains xs q
      in_order_has xs q = (
        λ h. contained xs q (sym (in_order_finds xs q) ∙ contains_finds (in_order xs) q h),
        λ h. contained (in_order xs) q (in_order_finds xs q ∙ contains_finds xs q h),
      )

      -- `E` tells the items that tie
      module _ {B : Type 0} (key : B → A) (E : A → A → Bool) (ties : (x y : A) → E x y ≡ eq_by_cmp R x y) where
        same_dedup : (q : A) (xs : List B) → list_any (λ x. eq_by_cmp R q (key x)) (dedup (λ x y. E (key x) (key y)) xs) ≡ list_any (λ x. eq_by_cmp R q (key x)) xs
        same_dedup q xs =
            let p : B → Bool = λ x. eq_by_cmp R q (key x) in
            let e : B → B → Bool = λ x y. E (key x) (key y) in
            same_bool _ _
            (λ h. let (k, x, low, is, passes) = Any-from_list_any p (dedup e xs) h in let (j, l, at) = Contains-from_dedup e xs x (k, low, is) in list_any-from_Any p xs (j, x, l, at, passes))
            (λ h. let (k, x, low, is, passes) = Any-from_list_any p xs h in
            let (j, y, l, at, tied) = Any-dedup equiv xs x (k, low, is) in
            let one : key x ≡ key y = same _ _ (is_equal _ (sym (ties (key x) (key y)) ∙ tied)) in
            list_any-from_Any p (dedup e xs) (j, y, l, at, subst (λ a. eq_by_cmp R q a ≡ true) one passes))
          where
            equiv : IsEquivalence (λ x y. E (key x) (key y))
            equiv = let of : IsEquivalence (eq_by_cmp R) = eq_by_cmp_equiv o in record {
              refl = λ x. ties (key x) (key x) ∙ of.refl (key x);
              symm = λ x y. ties (key x) (key y) ∙ of.symm (key x) (key y) ∙ sym (ties (key y) (key x));
              congr = λ x y z is. ties (key x) (key z) ∙ of.congr (key x) (key y) (key z) (sym (ties (key x) (key y)) ∙ is) ∙ sym (ties (key y) (key z));
            }

        rising_keys : (xs : List B) → IsStrictlySortedBy (λ x y. R (key x) (key y)) xs → IsStrictlySortedBy R (map key xs)
        unfolding IsStrictlySortedBy
        rising_keys [] h = h
        rising_keys (x ∷ xs) h = (below_keys x xs h.0, rising_keys xs h.1)
          where
            below_keys : (x : B) (xs : List B) → AllByRecursion (λ y. R (key x) (key y) ≡ Less) xs → AllByRecursion (λ y. R (key x) y ≡ Less) (map key xs)
            below_keys x [] h = h
            below_keys x (y ∷ ys) h = (h.0, below_keys x ys h.1)

        pub sorted_is : (xs ss ds : List B) → IsPermutation xs ss → IsSorted (λ x y. R (key x) (key y)) ss → ds ≡ dedup (λ x y. E (key x) (key y)) ss → map key ds ≡ in_order (map key xs)
        sorted_is xs ss ds moved up is =
            let rising = IsStrictlySortedBy-dedup (on_total key o) (λ x y. ties (key x) (key y)) ss up in
            in_order_is (map key xs) (map key ds) (rising_keys ds (subst (IsStrictlySortedBy (λ x y. R (key x) (key y))) (sym is) rising)) (λ q.
            let p : B → Bool = λ x. eq_by_cmp R q (key x) in
            any_map (eq_by_cmp R q) key ds ∙ ap (list_any p) is ∙ same_dedup q ss ∙ sym (list_any-IsPermutation p xs ss moved) ∙ sym (any_map (eq_by_cmp R q) key xs))
