-- What the links of a table say, in the table and among its entries.
use Rattle.std.proofs.Common.{◌≡◌, ℕ, true, false, cond, List, [], ◌∷◌, ◌++◌, Some, refl, sym, subst, ◌∙◌, ap, append_assoc}
use Rattle.std.specs.Prelude.{T}
use Rattle.std.specs.List.{AllByRecursion}
use Rattle.std.specs.Ordering.{eq_by_cmp}
use Rattle.std.specs.FinMap.{entries, get, find, is_sorted, entries_sorted, get-entries}
use Rattle.em_tree.specs.declared.node.Node.{Node}
use Rattle.em_tree.specs.declared.node.Node.TheVariants.{File, Dir, Link}
use Rattle.em_tree.specs.Trees.{Table}
use Rattle.em_image.specs.Image.{AreLinks}
use Rattle.em_image.proofs.Order.{cmp, find_sorted}
use Rattle.em_image.proofs.Nodes.{Says}
use Rattle.em_image.proofs.Chain.{Entry}

abbrev pub AllSay : List Entry → Type 0
AllSay es = AllByRecursion (λ e. Says e.1) es

found_says : (p : List ℕ) (n : Node) (es : List Entry) → AllSay es → find cmp p es ≡ Some n → Says n
found_says p n [] h e = absurd cc
found_says p n (x ∷ es) h e =
    elim (eq_by_cmp cmp p x.0) as (λ b. cond b (Some x.1) (find cmp p es) ≡ Some n → Says n) [
      | true ↦ λ k. let is : x.1 ≡ n = cc in subst Says is h.0
      | false ↦ λ k. found_says p n es h.1 k
    ] e

pub links_from : (t : Table) → AllSay (entries t) → AreLinks t
links_from t h = λ p text stamp e. found_says p (Link text stamp) (entries t) h (sym (get-entries t p) ∙ e)

says_from : (t : Table) (p : List ℕ) (n : Node) → AreLinks t → get t p ≡ Some n → Says n
says_from t p (File body stamp) h e = tt
says_from t p (Dir stamp) h e = tt
says_from t p (Link text stamp) h e = h p text stamp e

pub all_say : (t : Table) → AreLinks t → AllSay (entries t)
all_say t h = by [] (entries t) refl
  where
    by : (pre es : List Entry) → entries t ≡ pre ++ es → AllSay es
    by pre [] e = tt
    by pre (x ∷ es) e =
        let sorted : T (is_sorted cmp (pre ++ x ∷ es)) = subst (λ (fs : List Entry). T (is_sorted cmp fs)) e (entries_sorted t) in
        let there : get t x.0 ≡ Some x.1 = get-entries t x.0 ∙ ap (λ (fs : List Entry). find cmp x.0 fs) e ∙ find_sorted pre es x sorted in
        (says_from t x.0 x.1 h there, by (pre ++ x ∷ []) es (e ∙ sym (append_assoc pre (x ∷ []) es)))
