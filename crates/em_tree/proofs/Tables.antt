-- Tables and trees: what their definitions give.
use Rattle.std.proofs.Common.{◌≡◌, ℕ, Bool, true, false, cond, List, [], ◌∷◌, ◌++◌, Option, Some, None, refl, sym, ap, subst, ◌∙◌}
use Rattle.std.specs.Prelude.{IsSome}
use Rattle.std.specs.declared.cmp.Ordering.{Ordering}
use Rattle.std.specs.declared.cmp.Ordering.TheVariants.{Less, Equal, Greater}
use Rattle.std.specs.Ordering.{eq_by_cmp, is_eq}
use Rattle.std.specs.Cmp.Lexicographic.{nat_list_cmp_total}
use Rattle.std.specs.FinMap.{get, insert, entries, empty, get-insert, get-empty}
use Rattle.em_path.specs.Paths.{IsPath, root_text, parent_text}
use Rattle.em_path.proofs.Spelling.{root_is_path}
use Rattle.em_tree.specs.declared.node.Node.{Node}
use Rattle.em_tree.specs.declared.node.Node.TheVariants.{Dir}
use Rattle.em_tree.specs.Trees.{Table, Changes, IsTree, kind_of, changed, changed_all, laid_over}
use Rattle.em_tree.proofs.Maps.{order, exact}

pub changed_all-push : (es : List (List ℕ × Option Node)) (p : List ℕ) (c : Option Node) (t : Table) → changed_all (es ++ (p, c) ∷ []) t ≡ changed_all es (changed t p c)
changed_all-push [] p c t = refl
changed_all-push (e ∷ es) p c t = ap (λ (s : Table). changed s e.0 e.1) (changed_all-push es p c t)

-- the last change is made first
pub laid_over-push : (d rest : Changes) (p : List ℕ) (c : Option Node) (t : Table) → entries d ≡ entries rest ++ (p, c) ∷ [] → laid_over d t ≡ laid_over rest (changed t p c)
laid_over-push d rest p c t e = ap (λ (es : List (List ℕ × Option Node)). changed_all es t) e ∙ changed_all-push (entries rest) p c t

-- ---- the tree of a root

not_some : (X : Type 0) → IsSome {T = X} None → ⊥
not_some X h = cc

no_parent : (p q : List ℕ) → p ≡ root_text → parent_text p ≡ Some q → ⊥
no_parent p q e h = let z : None ≡ Some q = sym (ap parent_text e) ∙ h in cc

is_equal : (r : Ordering) → is_eq r ≡ true → r ≡ Equal
is_equal Less e = cc
is_equal Equal e = refl
is_equal Greater e = cc

-- keys that compare alike are the same
pub same_key : (p q : List ℕ) → eq_by_cmp order p q ≡ true → p ≡ q
same_key p q e = exact p q (is_equal (order p q) e)

in_root : (s : ℕ) (p : List ℕ) → get {R = order} (insert empty root_text (Dir s)) p ≡ cond (eq_by_cmp order p root_text) (Some (Dir s)) None
in_root s p = get-insert nat_list_cmp_total empty root_text (Dir s) p ∙ ap (cond (eq_by_cmp order p root_text) (Some (Dir s))) (get-empty order p)

only_root : (b : Bool) (p : List ℕ) (n : Node) → eq_by_cmp order p root_text ≡ b → IsSome (cond b (Some n) None) → p ≡ root_text
only_root true p n e h = same_key p root_text e
only_root false p n e h = absurd (not_some Node h)

at_root : (s : ℕ) (p : List ℕ) → IsSome (get {R = order} (insert empty root_text (Dir s)) p) → p ≡ root_text
at_root s p h = only_root (eq_by_cmp order p root_text) p (Dir s) refl (subst (λ (o : Option Node). IsSome o) (in_root s p) h)

pub IsTree-root : (s : ℕ) → IsTree (insert empty root_text (Dir s))
IsTree-root s = record {
  root = ap kind_of (in_root s root_text);
  paths = λ p h. subst IsPath (sym (at_root s p h)) root_is_path;
  parents = λ p q h e. absurd (no_parent p q (at_root s p h) e);
}
