-- Two changes of a finite map.
use Rattle.std.proofs.Common.{◌≡◌, ℕ, Bool, true, false, cond, List, Option, Some, None, refl, sym, ap, ◌∙◌}
use Rattle.std.specs.Prelude.{is_some, option_copied}
use Rattle.std.specs.Borrow.{Bor}
use Rattle.std.proofs.lemmas.Bool.{false≢true}
use Rattle.std.specs.Ordering.{eq_by_cmp}
use Rattle.std.specs.Cmp.Lexicographic.{nat_list_cmp_total}
use Rattle.std.specs.FinMap.{FinMap, get, insert, remove, get-insert, get-remove, same_map}
use Rattle.em_tree.proofs.Maps.{order, exact}
use Rattle.em_tree.proofs.Tables.{same_key}

module _ {X : Type 0} (t : FinMap order X) (p : List ℕ) (x : X) where
  twice : (q r : List ℕ) (y : X) → get (insert (insert t p x) q y) r ≡ cond (eq_by_cmp order r q) (Some y) (cond (eq_by_cmp order r p) (Some x) (get t r))
  twice q r y = get-insert nat_list_cmp_total (insert t p x) q y r ∙ ap (cond (eq_by_cmp order r q) (Some y)) (get-insert nat_list_cmp_total t p x r)

  -- of two paths it doesn't matter which is put first
  pub insert_swap : (q : List ℕ) (y : X) → (p ≡ q → ⊥) → insert (insert t q y) p x ≡ insert (insert t p x) q y
  insert_swap q y other = same_map nat_list_cmp_total exact _ _ (λ r.
      get-insert nat_list_cmp_total (insert t q y) p x r ∙ ap (cond (eq_by_cmp order r p) (Some x)) (get-insert nat_list_cmp_total t q y r)
      ∙ by_case r (eq_by_cmp order r p) (eq_by_cmp order r q) refl refl ∙ sym (twice q r y))
    where
      by_case : (r : List ℕ) (a b : Bool) → eq_by_cmp order r p ≡ a → eq_by_cmp order r q ≡ b → cond a (Some x) (cond b (Some y) (get t r)) ≡ cond b (Some y) (cond a (Some x) (get t r))
      by_case r true true e f = absurd (other (sym (same_key r p e) ∙ same_key r q f))
      by_case r true false e f = refl
      by_case r false true e f = refl
      by_case r false false e f = refl

  -- a new path, taken out again
  pub taken_back : get t p ≡ None → remove (insert t p x) p ≡ t
  taken_back absent = same_map nat_list_cmp_total exact _ _ (λ q. get-remove nat_list_cmp_total (insert t p x) p q ∙ ap (cond (eq_by_cmp order q p) None) (get-insert nat_list_cmp_total t p x q) ∙ by_case q (eq_by_cmp order q p) refl)
    where
      by_case : (q : List ℕ) (b : Bool) → eq_by_cmp order q p ≡ b → cond b None (cond b (Some x) (get t q)) ≡ get t q
      by_case q true e = sym (ap (get t) (same_key q p e) ∙ absent)
      by_case q false e = refl

-- what is there stays there where another path is put
pub stays_there : {X : Type 0} (t : FinMap order X) (p q : List ℕ) (y : X) → (p ≡ q → ⊥) → is_some (get t p) ≡ true → get (insert t q y) p ≡ None → ⊥
stays_there t p q y other there gone = by_case (eq_by_cmp order p q) refl (sym (get-insert nat_list_cmp_total t q y p) ∙ gone)
  where
    by_case : (b : Bool) → eq_by_cmp order p q ≡ b → cond b (Some y) (get t p) ≡ None → ⊥
    by_case true e h = other (same_key p q e)
    by_case false e h = false≢true (sym (ap is_some h) ∙ there)

pub not_found : {X : Type 0} (r : Option (Bor X)) (o : Option X) → option_copied r ≡ o → is_some r ≡ false → o ≡ None
not_found None o e h = sym e
not_found (Some x) o e h = absurd (false≢true (sym h))
