-- The laws of tables, trees and answers.
use Rattle.std.proofs.Common.{◌≡◌, ℕ, suc, Bool, true, false, cond, ◌&&◌, List, [], ◌∷◌, Option, Some, None, slice_get, refl, sym, ap, subst, ◌∙◌}
use Rattle.std.specs.Prelude.{IsSome, is_some}
use Rattle.std.specs.Ordering.{eq_by_cmp}
use Rattle.std.specs.Cmp.Lexicographic.{nat_list_cmp_total}
use Rattle.std.specs.BTreeSet.{BTreeSet}
use Rattle.std.specs.FinMap.{get, insert, remove, entries, contains_key, get-entries, get-insert, get-remove, empty, get-empty}
use Rattle.std.proofs.lemmas.Map.Lookups.{btree_set_from_contains}
use Rattle.em_path.specs.Paths.{IsPath, root_text, parent_text}
use Rattle.em_tree.specs.declared.node.Kind.TheVariants as kind
use Rattle.em_tree.specs.declared.node.Node.{Node}
use Rattle.em_tree.specs.declared.node.Node.TheVariants.{File, Dir, Link}
use Rattle.em_tree.specs.declared.outcome.Outcome.{Outcome}
use Rattle.em_tree.specs.declared.state.State.{State}
use Rattle.em_tree.specs.declared.question.Question.{Question}
use Rattle.em_tree.specs.declared.question.Question.TheVariants as ask
use Rattle.em_tree.specs.declared.question.Answer.TheVariants as told
use Rattle.em_tree.specs.Trees.{Table, Changes, IsTree, kind_of, stamp_of, content_of, link_of, changed, laid_over}
use Rattle.em_tree.specs.Index.{is_parent}
use Rattle.em_tree.specs.Names.{children_of}
use Rattle.em_tree.specs.Answers.{answer}
use Rattle.em_tree.proofs.Maps.{order, exact}
use Rattle.em_tree.proofs.Tables.{same_key}
use Rattle.em_tree.proofs.Laying.{over, get-changed_all, get-changed, same_table}
use Rattle.em_tree.proofs.Naming.{any_child, children_rise, parent_said}

-- ---- laid over

pub get-laid_over : (d : Changes) (t : Table) (p : List ℕ) → get (laid_over d t) p ≡ over (get d p) (get t p)
get-laid_over d t p = get-changed_all (entries d) t p ∙ ap (λ c. over c (get t p)) (sym (get-entries d p))

pub laid_twice : (d : Changes) (t : Table) → laid_over d (laid_over d t) ≡ laid_over d t
laid_twice d t = same_table (laid_over d (laid_over d t)) (laid_over d t) (λ p. get-laid_over d (laid_over d t) p ∙ by_case p (get d p) refl)
  where
    by_case : (p : List ℕ) (c : Option (Option Node)) → get d p ≡ c → over c (get (laid_over d t) p) ≡ get (laid_over d t) p
    by_case p None e = refl
    by_case p (Some c) e = sym (get-laid_over d t p ∙ ap (λ x. over x (get t p)) e)

-- ---- answers

pub same_children : (s t : Table) (p : List ℕ) → ((k : List ℕ) → parent_text k ≡ Some p → contains_key s k ≡ contains_key t k) → children_of s p ≡ children_of t p
same_children s t p e =
    let mine : BTreeSet (List ℕ) = record { keys = children_of s p } in
    let its : BTreeSet (List ℕ) = record { keys = children_of t p } in
    btree_set_from_contains nat_list_cmp_total mine its (children_rise s p) (children_rise t p) (λ k. any_child s p k ∙ by_case k (is_parent p k) refl ∙ sym (any_child t p k)) exact
  where
    by_case : (k : List ℕ) (b : Bool) → is_parent p k ≡ b → (b && contains_key s k) ≡ (b && contains_key t k)
    by_case k true h = e k (parent_said (parent_text k) p h)
    by_case k false h = refl

node_from : (m n : Option Node) → told.Kind (kind_of m) ≡ told.Kind (kind_of n) → told.Stamp (stamp_of m) ≡ told.Stamp (stamp_of n)
    → told.Content (content_of m) ≡ told.Content (content_of n) → told.Link (link_of m) ≡ told.Link (link_of n) → m ≡ n
node_from None None k s c l = refl
node_from None (Some (File b v)) k s c l = cc
node_from None (Some (Dir v)) k s c l = cc
node_from None (Some (Link b v)) k s c l = cc
node_from (Some (File a u)) None k s c l = cc
node_from (Some (File a u)) (Some (File b v)) k s c l = cc
node_from (Some (File a u)) (Some (Dir v)) k s c l = cc
node_from (Some (File a u)) (Some (Link b v)) k s c l = cc
node_from (Some (Dir u)) None k s c l = cc
node_from (Some (Dir u)) (Some (File b v)) k s c l = cc
node_from (Some (Dir u)) (Some (Dir v)) k s c l = cc
node_from (Some (Dir u)) (Some (Link b v)) k s c l = cc
node_from (Some (Link a u)) None k s c l = cc
node_from (Some (Link a u)) (Some (File b v)) k s c l = cc
node_from (Some (Link a u)) (Some (Dir v)) k s c l = cc
node_from (Some (Link a u)) (Some (Link b v)) k s c l = cc

lists_from : {X : Type 0} (xs ys : List X) → ((k : ℕ) → slice_get xs k ≡ slice_get ys k) → xs ≡ ys
lists_from [] [] e = refl
lists_from [] (y ∷ ys) e = let z : None ≡ Some y = e 0 in cc
lists_from (x ∷ xs) [] e = let z : Some x ≡ None = e 0 in cc
lists_from (x ∷ xs) (y ∷ ys) e = let head : Some x ≡ Some y = e 0 in let tail = lists_from xs ys (λ k. e (suc k)) in cc

said : (a b : Option Outcome) → told.Outcome a ≡ told.Outcome b → a ≡ b
said a b e = cc

pub same_state : (s t : State) → ((q : Question) → answer s q ≡ answer t q) → s ≡ t
same_state s t e =
    let trees : s.tree ≡ t.tree = same_table s.tree t.tree (λ p. node_from (get s.tree p) (get t.tree p) (e (ask.Kind p)) (e (ask.Stamp p)) (e (ask.Content p)) (e (ask.Link p))) in
    let outcomes : s.outcomes ≡ t.outcomes = lists_from s.outcomes t.outcomes (λ k. said (slice_get s.outcomes k) (slice_get t.outcomes k) (e (ask.Outcome k))) in
    λ i. record { tree = trees i; outcomes = outcomes i }

-- ---- trees

there : (o : Option Node) → kind_of o ≡ kind.Dir → IsSome o
there None e = cc
there (Some n) e = refl

pub IsTree-put : (t : Table) (p above : List ℕ) (n : Node) → IsTree t → IsPath p → parent_text p ≡ Some above → kind_of (get t above) ≡ kind.Dir
    → (kind_of (get t p) ≡ kind.Dir → kind_of (Some n) ≡ kind.Dir) → IsTree (insert t p n)
IsTree-put t p above n h path up dir same = record {
  root = stays root_text h.root;
  paths = λ k i. path_of k (eq_by_cmp order k p) refl (subst (λ (o : Option Node). IsSome o) (at k) i);
  parents = λ k q i e. stays q (parent_of k q e (eq_by_cmp order k p) refl (subst (λ (o : Option Node). IsSome o) (at k) i));
}
  where
    at : (k : List ℕ) → get {R = order} (insert t p n) k ≡ cond (eq_by_cmp order k p) (Some n) (get t k)
    at k = get-insert nat_list_cmp_total t p n k

    dir_by : (k : List ℕ) (b : Bool) → eq_by_cmp order k p ≡ b → kind_of (get t k) ≡ kind.Dir → kind_of (cond b (Some n) (get t k)) ≡ kind.Dir
    dir_by k true e d = same (ap (λ (q : List ℕ). kind_of (get t q)) (sym (same_key k p e)) ∙ d)
    dir_by k false e d = d

    stays : (k : List ℕ) → kind_of (get t k) ≡ kind.Dir → kind_of (get {R = order} (insert t p n) k) ≡ kind.Dir
    stays k d = ap kind_of (at k) ∙ dir_by k (eq_by_cmp order k p) refl d

    path_of : (k : List ℕ) (b : Bool) → eq_by_cmp order k p ≡ b → IsSome (cond b (Some n) (get t k)) → IsPath k
    path_of k true e i = subst IsPath (sym (same_key k p e)) path
    path_of k false e i = h.paths k i

    parent_of : (k q : List ℕ) → parent_text k ≡ Some q → (b : Bool) → eq_by_cmp order k p ≡ b → IsSome (cond b (Some n) (get t k)) → kind_of (get t q) ≡ kind.Dir
    parent_of k q e true g i = let is : above ≡ q = (let z : Some above ≡ Some q = sym up ∙ ap parent_text (sym (same_key k p g)) ∙ e in cc) in ap (λ (r : List ℕ). kind_of (get t r)) (sym is) ∙ dir
    parent_of k q e false g i = h.parents k q i e

pub IsTree-put_root : (t : Table) (p : List ℕ) (n : Node) → IsTree t → parent_text p ≡ None → IsSome (get t p) → kind_of (Some n) ≡ kind.Dir → IsTree (insert t p n)
IsTree-put_root t p n h up has dir = record {
  root = stays root_text h.root;
  paths = λ k i. path_of k (eq_by_cmp order k p) refl (subst (λ (o : Option Node). IsSome o) (at k) i);
  parents = λ k q i e. stays q (parent_of k q e (eq_by_cmp order k p) refl (subst (λ (o : Option Node). IsSome o) (at k) i));
}
  where
    at : (k : List ℕ) → get {R = order} (insert t p n) k ≡ cond (eq_by_cmp order k p) (Some n) (get t k)
    at k = get-insert nat_list_cmp_total t p n k

    dir_by : (k : List ℕ) (b : Bool) → kind_of (get t k) ≡ kind.Dir → kind_of (cond b (Some n) (get t k)) ≡ kind.Dir
    dir_by k true d = dir
    dir_by k false d = d

    stays : (k : List ℕ) → kind_of (get t k) ≡ kind.Dir → kind_of (get {R = order} (insert t p n) k) ≡ kind.Dir
    stays k d = ap kind_of (at k) ∙ dir_by k (eq_by_cmp order k p) d

    path_of : (k : List ℕ) (b : Bool) → eq_by_cmp order k p ≡ b → IsSome (cond b (Some n) (get t k)) → IsPath k
    path_of k true e i = subst IsPath (sym (same_key k p e)) (h.paths p has)
    path_of k false e i = h.paths k i

    parent_of : (k q : List ℕ) → parent_text k ≡ Some q → (b : Bool) → eq_by_cmp order k p ≡ b → IsSome (cond b (Some n) (get t k)) → kind_of (get t q) ≡ kind.Dir
    parent_of k q e true g i = absurd (let z : None ≡ Some q = sym up ∙ ap parent_text (sym (same_key k p g)) ∙ e in cc)
    parent_of k q e false g i = h.parents k q i e

pub IsTree-remove : (t : Table) (p above : List ℕ) → IsTree t → parent_text p ≡ Some above → ((k : List ℕ) → parent_text k ≡ Some p → get t k ≡ None) → IsTree (remove t p)
IsTree-remove t p above h up bare = record {
  root = root_by (eq_by_cmp order root_text p) refl;
  paths = λ k i. h.paths k (was k (eq_by_cmp order k p) (subst (λ (o : Option Node). IsSome o) (at k) i));
  parents = λ k q i e. parent_by k q e (was k (eq_by_cmp order k p) (subst (λ (o : Option Node). IsSome o) (at k) i)) (eq_by_cmp order q p) refl;
}
  where
    at : (k : List ℕ) → get {R = order} (remove t p) k ≡ cond (eq_by_cmp order k p) None (get t k)
    at k = get-remove nat_list_cmp_total t p k

    was : (k : List ℕ) (b : Bool) → IsSome (cond b None (get t k)) → IsSome (get t k)
    was k true i = cc
    was k false i = i

    root_by : (b : Bool) → eq_by_cmp order root_text p ≡ b → kind_of (get {R = order} (remove t p) root_text) ≡ kind.Dir
    root_by true e = absurd (let z : None ≡ Some above = ap parent_text (same_key root_text p e) ∙ up in cc)
    root_by false e = ap kind_of (at root_text ∙ ap (λ b. cond b None (get t root_text)) e) ∙ h.root

    parent_by : (k q : List ℕ) → parent_text k ≡ Some q → IsSome (get t k) → (b : Bool) → eq_by_cmp order q p ≡ b → kind_of (get {R = order} (remove t p) q) ≡ kind.Dir
    parent_by k q e i true g = let none = bare k (e ∙ ap (λ x. Some x) (same_key q p g)) in cc
    parent_by k q e i false g = ap kind_of (at q ∙ ap (λ b. cond b None (get t q)) g) ∙ h.parents k q i e

-- one change laid
pub laid_one : (t : Table) (p : List ℕ) (c : Option Node) → laid_over (insert empty p c) t ≡ changed t p c
laid_one t p c = same_table (laid_over (insert empty p c) t) (changed t p c) (λ q.
    get-laid_over (insert empty p c) t q ∙ ap (λ o. over o (get t q)) (get-insert nat_list_cmp_total empty p c q ∙ ap (cond (eq_by_cmp order q p) (Some c)) (get-empty order q)) ∙ by_case (eq_by_cmp order q p) (get t q) ∙ sym (get-changed t p c q))
  where
    by_case : (b : Bool) (o : Option Node) → over (cond b (Some c) None) o ≡ cond b c o
    by_case true o = refl
    by_case false o = refl

-- nothing stands under a file
pub bare_file : (t : Table) (p : List ℕ) → IsTree t → kind.File ≡ kind_of (get t p) → (k : List ℕ) → parent_text k ≡ Some p → get t k ≡ None
bare_file t p h file k up = by_case (get t k) refl
  where
    by_case : (o : Option Node) → get t k ≡ o → get t k ≡ None
    by_case None e = e
    by_case (Some n) e = let z : kind.File ≡ kind.Dir = file ∙ h.parents k p (ap is_some e) up in cc
