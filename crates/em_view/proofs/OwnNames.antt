-- The names of a directory under own changes, kept as a set.
use Rattle.std.proofs.Common.{◌≡◌, ◌<◌, ◌+◌, ℕ, suc, Bool, List, [], ◌∷◌, ◌++◌, Option, Some, All, length, get_or, take, drop, refl, sym, ap, subst, ◌∙◌, add-one, take-append-drop, drop-cons}
use Rattle.std.proofs.Math.Seq.{take-suc}
use Rattle.std.specs.Prelude.{IfSome}
use Rattle.std.specs.declared.cmp.Ordering.TheVariants.{Less, Greater}
use Rattle.std.specs.Ordering.{ordering_reverse, match_ordering}
use Rattle.std.specs.Cmp.Lexicographic.{nat_list_cmp_total}
use Rattle.std.specs.List.{AllByRecursion}
use Rattle.std.specs.List.Sorted.{IsStrictlySortedBy}
use Rattle.std.specs.BTreeSet.{insert_key}
use Rattle.std.specs.Set.{remove_key}
use Rattle.std.proofs.lemmas.List.Elements.{recursion_from_All}
use Rattle.std.proofs.lemmas.Map.Views.{All-insert_key, All-remove_key}
use Rattle.em_path.specs.Paths.{IsPath, IsComponent, components, last_of}
use Rattle.em_tree.specs.Names.{IsNameList}
use Rattle.em_tree.proofs.Maps.{order}
use Rattle.em_tree.proofs.Naming.{at_place, all_below}

pub component_of : (p n : List ℕ) → IsPath p → Some n ≡ last_of p → IsComponent n
component_of p n path e = subst (λ (o : Option (List ℕ)). IfSome o IsComponent) (sym e) (at_place IsComponent (components p) _ (recursion_from_All IsComponent (components p) path.names))

pub named_insert : (ns : List (List ℕ)) (n : List ℕ) (ms : List (List ℕ)) → ms ≡ insert_key order ns n → IsStrictlySortedBy order ms → IsNameList ns → IsComponent n → IsNameList ms
named_insert ns n ms e rise h name = record { components = subst (λ (xs : List (List ℕ)). All IsComponent xs) (sym e) (All-insert_key order n IsComponent ns h.components name); rising = rise }

pub named_remove : (ns : List (List ℕ)) (test : List ℕ → Bool) (ms : List (List ℕ)) → ms ≡ remove_key test ns → IsStrictlySortedBy order ms → IsNameList ns → IsNameList ms
named_remove ns test ms e rise h = record { components = subst (λ (xs : List (List ℕ)). All IsComponent xs) (sym e) (All-remove_key test IsComponent ns h.components); rising = rise }

-- a name above all others goes to the end
insert_last : (xs : List (List ℕ)) (y : List ℕ) → AllByRecursion (λ x. order x y ≡ Less) xs → insert_key order xs y ≡ xs ++ y ∷ []
insert_last [] y h = refl
insert_last (x ∷ xs) y h =
    let above : order y x ≡ Greater = nat_list_cmp_total.antisymm y x ∙ ap ordering_reverse h.0 in
    ap (λ r. match_ordering r (y ∷ x ∷ xs) (x ∷ xs) (x ∷ insert_key order xs y)) above ∙ ap (λ (l : List (List ℕ)). x ∷ l) (insert_last xs y h.1)

pub next_name : (ns : List (List ℕ)) (i : ℕ) (x : List ℕ) → IsNameList ns → i < length ns → x ≡ get_or ns i x → insert_key order (take i ns) x ≡ take (i + 1) ns
next_name ns i x h l e =
    let rest : drop i ns ≡ x ∷ drop (suc i) ns = drop-cons ns i x l ∙ ap (λ (y : List ℕ). y ∷ drop (suc i) ns) (sym e) in
    let whole : ns ≡ take i ns ++ x ∷ drop (suc i) ns = sym (take-append-drop i ns) ∙ ap (λ (r : List (List ℕ)). take i ns ++ r) rest in
    let below = all_below (take i ns) x (drop (suc i) ns) (subst (λ (xs : List (List ℕ)). IsStrictlySortedBy order xs) whole h.rising) in
    insert_last (take i ns) x below ∙ ap (λ (y : List ℕ). take i ns ++ y ∷ []) e ∙ sym (take-suc ns i x l) ∙ ap (λ k. take k ns) (sym (add-one i))
