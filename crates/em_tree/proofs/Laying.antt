-- How changes act on a table, one after another.
use Rattle.std.proofs.Common.{◌≡◌, ◌<◌, ℕ, zero, suc, Bool, true, false, cond, ◌&&◌, List, [], ◌∷◌, ◌++◌, Option, Some, None, length, get_or, refl, sym, ap, subst, ◌∙◌, arith}
use Rattle.std.specs.Prelude.{T, IsSome, is_some, option_copied}
use Rattle.std.specs.Borrow.{Bor}
use Rattle.em_tree.specs.declared.index.Place.{Place}
use Rattle.std.specs.Ordering.{eq_by_cmp, is_eq, is_lt}
use Rattle.std.specs.declared.cmp.Ordering.{Ordering}
use Rattle.std.specs.declared.cmp.Ordering.TheVariants.{Less, Equal, Greater}
use Rattle.std.specs.Cmp.{eq_by_cmp_equiv, tied_itself}
use Rattle.std.specs.Cmp.Lexicographic.{nat_list_cmp_total}
use Rattle.std.specs.FinMap.{get, insert, remove, get-insert, get-remove, same_map, find, is_sorted}
use Rattle.std.specs.FinMap.Entries.{below_all}
use Rattle.em_tree.specs.declared.node.Node.{Node}
use Rattle.em_tree.specs.declared.lay.Step.{Step}
use Rattle.em_tree.specs.Trees.{Table, changed, changed_all}
use Rattle.em_tree.specs.Steps.{changes_of, removals, HasRoom}
use Rattle.em_tree.proofs.Maps.{order, exact}
use Rattle.em_tree.proofs.Tables.{same_key}

flip : (p q : List ℕ) → eq_by_cmp order p q ≡ eq_by_cmp order q p
flip p q = (eq_by_cmp_equiv nat_list_cmp_total).symm p q

pub same_table : (s t : Table) → ((q : List ℕ) → get s q ≡ get t q) → s ≡ t
same_table s t e = same_map nat_list_cmp_total exact s t e

-- ---- one change

pub get-changed : (t : Table) (p : List ℕ) (c : Option Node) (q : List ℕ) → get (changed t p c) q ≡ cond (eq_by_cmp order q p) c (get t q)
get-changed t p None q = get-remove nat_list_cmp_total t p q
get-changed t p (Some n) q = get-insert nat_list_cmp_total t p n q

pub changed-other : (t : Table) (p : List ℕ) (c : Option Node) (q : List ℕ) → eq_by_cmp order q p ≡ false → get (changed t p c) q ≡ get t q
changed-other t p c q e = get-changed t p c q ∙ ap (λ b. cond b c (get t q)) e

itself : (p : List ℕ) → eq_by_cmp order p p ≡ true
itself p = ap is_eq (tied_itself nat_list_cmp_total p)

pub changed-here : (t : Table) (p : List ℕ) (c : Option Node) → get (changed t p c) p ≡ c
changed-here t p c = get-changed t p c p ∙ ap (λ b. cond b c (get t p)) (itself p)

-- a new path, taken out again
pub remove-insert : (t : Table) (p : List ℕ) (n : Node) → get t p ≡ None → remove (insert t p n) p ≡ t
remove-insert t p n absent = same_table (remove (insert t p n) p) t (λ q. get-remove nat_list_cmp_total (insert t p n) p q ∙ ap (cond (eq_by_cmp order q p) None) (get-insert nat_list_cmp_total t p n q) ∙ by_case q (eq_by_cmp order q p) refl)
  where
    by_case : (q : List ℕ) (b : Bool) → eq_by_cmp order q p ≡ b → cond b None (cond b (Some n) (get t q)) ≡ get t q
    by_case q true e = sym (ap (get t) (same_key q p e) ∙ absent)
    by_case q false e = refl

pub stays-insert : (t : Table) (p : List ℕ) (n : Node) (q : List ℕ) → IsSome (get t q) → IsSome (get (insert t p n) q)
stays-insert t p n q h = subst (λ (o : Option Node). IsSome o) (sym (get-insert nat_list_cmp_total t p n q)) (by_case (eq_by_cmp order q p))
  where
    by_case : (b : Bool) → IsSome (cond b (Some n) (get t q))
    by_case true = refl
    by_case false = h

-- ---- changes in a row

abbrev pub over : Option (Option Node) → Option Node → Option Node
over None g = g
over (Some c) g = c

pub get-changed_all : (cs : List (List ℕ × Option Node)) (t : Table) (q : List ℕ) → get (changed_all cs t) q ≡ over (find order q cs) (get t q)
get-changed_all [] t q = refl
get-changed_all (c ∷ cs) t q = get-changed (changed_all cs t) c.0 c.1 q ∙ ap (cond (eq_by_cmp order q c.0) c.1) (get-changed_all cs t q) ∙ by_case (eq_by_cmp order q c.0)
  where
    by_case : (b : Bool) → cond b c.1 (over (find order q cs) (get t q)) ≡ over (cond b (Some c.1) (find order q cs)) (get t q)
    by_case true = refl
    by_case false = refl

-- what stands at the named paths before doesn't matter
pub same_after : (cs : List (List ℕ × Option Node)) (s t : Table) → ((q : List ℕ) → find order q cs ≡ None → get s q ≡ get t q) → changed_all cs s ≡ changed_all cs t
same_after cs s t e = same_table (changed_all cs s) (changed_all cs t) (λ q. get-changed_all cs s q ∙ by_case q (find order q cs) refl ∙ sym (get-changed_all cs t q))
  where
    by_case : (q : List ℕ) (f : Option (Option Node)) → find order q cs ≡ f → over f (get s q) ≡ over f (get t q)
    by_case q None h = e q h
    by_case q (Some c) h = refl

-- ---- the last change

find-front : {X : Type 0} (es fs : List (List ℕ × X)) (q : List ℕ) (x : X) → find order q es ≡ Some x → find order q (es ++ fs) ≡ Some x
find-front [] fs q x h = cc
find-front (e ∷ es) fs q x h = by_case (eq_by_cmp order q e.0) (find-front es fs q x) h
  where
    by_case : (b : Bool) → (find order q es ≡ Some x → find order q (es ++ fs) ≡ Some x) → cond b (Some e.1) (find order q es) ≡ Some x → cond b (Some e.1) (find order q (es ++ fs)) ≡ Some x
    by_case true r h = h
    by_case false r h = r h

find-last : {X : Type 0} (es : List (List ℕ × X)) (k q : List ℕ) (x : X) → find order q es ≡ None → find order q (es ++ (k, x) ∷ []) ≡ cond (eq_by_cmp order q k) (Some x) None
find-last [] k q x h = refl
find-last (e ∷ es) k q x h = by_case (eq_by_cmp order q e.0) (find-last es k q x) h
  where
    by_case : (b : Bool) → (find order q es ≡ None → find order q (es ++ (k, x) ∷ []) ≡ cond (eq_by_cmp order q k) (Some x) None)
        → cond b (Some e.1) (find order q es) ≡ None → cond b (Some e.1) (find order q (es ++ (k, x) ∷ [])) ≡ cond (eq_by_cmp order q k) (Some x) None
    by_case true r h = cc
    by_case false r h = r h

first_T : (a b : Bool) → T (a && b) → T a
first_T true b h = tt
first_T false b h = absurd h

second_T : (a b : Bool) → T (a && b) → T b
second_T true b h = h
second_T false b h = absurd h

both_T : (a b : Bool) → T a → T b → T (a && b)
both_T true b h g = g
both_T false b h g = absurd h

below-front : {X : Type 0} (x : List ℕ) (es fs : List (List ℕ × X)) → T (below_all order x (es ++ fs)) → T (below_all order x es)
below-front x [] fs h = tt
below-front x (e ∷ es) fs h = both_T (is_lt (order x e.0)) (below_all order x es) (first_T (is_lt (order x e.0)) (below_all order x (es ++ fs)) h) (below-front x es fs (second_T (is_lt (order x e.0)) (below_all order x (es ++ fs)) h))

below-last : {X : Type 0} (x : List ℕ) (es : List (List ℕ × X)) (k : List ℕ) (y : X) → T (below_all order x (es ++ (k, y) ∷ [])) → T (is_lt (order x k))
below-last x [] k y h = first_T (is_lt (order x k)) true h
below-last x (e ∷ es) k y h = below-last x es k y (second_T (is_lt (order x e.0)) (below_all order x (es ++ (k, y) ∷ [])) h)

pub sorted-front : {X : Type 0} (es : List (List ℕ × X)) (k : List ℕ) (y : X) → T (is_sorted order (es ++ (k, y) ∷ [])) → T (is_sorted order es)
sorted-front [] k y h = tt
sorted-front (e ∷ es) k y h = both_T (below_all order e.0 es) (is_sorted order es) (below-front e.0 es ((k, y) ∷ []) (first_T (below_all order e.0 (es ++ (k, y) ∷ [])) (is_sorted order (es ++ (k, y) ∷ [])) h)) (sorted-front es k y (second_T (below_all order e.0 (es ++ (k, y) ∷ [])) (is_sorted order (es ++ (k, y) ∷ [])) h))

not_tied : (r : Ordering) → T (is_lt r) → is_eq r ≡ false
not_tied Less h = refl
not_tied Equal h = absurd h
not_tied Greater h = refl

pub last-new : {X : Type 0} (es : List (List ℕ × X)) (k : List ℕ) (y : X) → T (is_sorted order (es ++ (k, y) ∷ [])) → find order k es ≡ None
last-new [] k y h = refl
last-new (e ∷ es) k y h =
    let below = below-last e.0 es k y (first_T (below_all order e.0 (es ++ (k, y) ∷ [])) (is_sorted order (es ++ (k, y) ∷ [])) h) in
    ap (λ b. cond b (Some e.1) (find order k es)) (flip k e.0 ∙ not_tied (order e.0 k) below) ∙ last-new es k y (second_T (below_all order e.0 (es ++ (k, y) ∷ [])) (is_sorted order (es ++ (k, y) ∷ [])) h)

-- ---- room for the changes

pub room_here : (cs : List (List ℕ × Option Node)) (k : List ℕ) (c : Option Node) (t : Table) → T (is_sorted order (cs ++ (k, c) ∷ [])) → HasRoom (cs ++ (k, c) ∷ []) t → IsSome c → IsSome (get t k)
room_here cs k None t s h i = cc
room_here cs k (Some n) t s h i = h k n (find-last cs k k (Some n) (last-new cs k (Some n) s) ∙ ap (λ b. cond b (Some (Some n)) None) (itself k))

pub room_left : (cs : List (List ℕ × Option Node)) (k : List ℕ) (c : Option Node) (t : Table) → T (is_sorted order (cs ++ (k, c) ∷ [])) → HasRoom (cs ++ (k, c) ∷ []) t → HasRoom cs (changed t k c)
room_left cs k c t s h q n f = subst (λ (o : Option Node). IsSome o) (sym (changed-other t k c q (by_case (eq_by_cmp order q k) refl))) (h q n (find-front cs ((k, c) ∷ []) q (Some n) f))
  where
    by_case : (b : Bool) → eq_by_cmp order q k ≡ b → b ≡ false
    by_case true e = let z : Some (Some n) ≡ None = sym f ∙ ap (λ (p : List ℕ). find order p cs) (same_key q k e) ∙ last-new cs k c s in cc
    by_case false e = refl

pub room_more : (cs : List (List ℕ × Option Node)) (k : List ℕ) (c : Option Node) (s t : Table) → HasRoom cs s → ((q : List ℕ) → IsSome (get s q) → IsSome (get t q)) → (IsSome c → IsSome (get t k)) → HasRoom (cs ++ (k, c) ∷ []) t
room_more cs k c s t h stays here q n f = by_found (find order q cs) refl
  where
    by_tie : (b : Bool) → eq_by_cmp order q k ≡ b → cond b (Some c) None ≡ Some (Some n) → IsSome (get t q)
    by_tie true e g = let same : c ≡ Some n = cc in subst (λ (p : List ℕ). IsSome (get t p)) (sym (same_key q k e)) (here (ap is_some same))
    by_tie false e g = cc

    by_found : (o : Option (Option Node)) → find order q cs ≡ o → IsSome (get t q)
    by_found None e = by_tie (eq_by_cmp order q k) refl (sym (find-last cs k q c e) ∙ f)
    by_found (Some x) e = let same : x ≡ Some n = (let z : Some x ≡ Some (Some n) = sym (find-front cs ((k, c) ∷ []) q x e) ∙ f in cc) in stays q (h q n (e ∙ ap (λ y. Some y) same))

-- ---- steps

pub changes_of-push : (ss : List Step) (s : Step) → changes_of (ss ++ s ∷ []) ≡ changes_of ss ++ (s.place.path, s.becomes) ∷ []
changes_of-push [] s = refl
changes_of-push (r ∷ ss) s = ap (λ (cs : List (List ℕ × Option Node)). (r.place.path, r.becomes) ∷ cs) (changes_of-push ss s)

pub not_named : (ss : List Step) (i : ℕ) (d : Step) (q : List ℕ) → i < length ss → find order q (changes_of ss) ≡ None → eq_by_cmp order q (get_or ss i d).place.path ≡ false
not_named [] i d q l h = absurd (omega arith)
not_named (s ∷ ss) zero d q l h = by_case (eq_by_cmp order q s.place.path) h
  where
    by_case : (b : Bool) → cond b (Some s.becomes) (find order q (changes_of ss)) ≡ None → b ≡ false
    by_case true h = cc
    by_case false h = refl
not_named (s ∷ ss) (suc i) d q l h = not_named ss i d q (omega arith) (by_case (eq_by_cmp order q s.place.path) h)
  where
    by_case : (b : Bool) → cond b (Some s.becomes) (find order q (changes_of ss)) ≡ None → find order q (changes_of ss) ≡ None
    by_case true h = cc
    by_case false h = h

pub undo_push : (ps : List (Bor Place)) (p : Bor Place) (t : Table) → changed_all (removals (ps ++ p ∷ [])) t ≡ changed_all (removals ps) (remove t p.now.path)
undo_push [] p t = refl
undo_push (x ∷ ps) p t = ap (λ (s : Table). remove s x.now.path) (undo_push ps p t)

pub missing : {X : Type 0} (r : Option (Bor X)) (o : Option X) → option_copied r ≡ o → is_some r ≡ false → o ≡ None
missing None o e h = sym e
missing (Some x) o e h = cc

pub present : {X : Type 0} (r : Option (Bor X)) (o : Option X) → option_copied r ≡ o → is_some r ≡ true → is_some o ≡ true
present None o e h = cc
present (Some x) o e h = sym (ap is_some e)
