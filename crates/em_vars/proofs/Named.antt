-- What the definitions of variables come to, and what indexmap's words on its entries come to on
-- the entries that contracts see.
use Rattle.std.proofs.Common.{◌≡◌, ◌≢◌, ◌∙◌, refl, sym, ap, ℕ, Bool, true, false, not, cond, List, [], ◌∷◌, ◌++◌, map, Some, None, IsSome, subst, append_assoc}
use Rattle.std.proofs.lemmas.Bool.{false≢true}
use Rattle.std.specs.Str.{bytes_eq}
use Rattle.std.specs.Map.{keys_of, lookup, remove_entry}
use Rattle.std.specs.Cmp.Lexicographic.{bytes_decides}
use Rattle.indexmap.specs.IndexMap.{insert_entry}
use Rattle.em_vars.specs.declared.var.Var.{Var}
use Rattle.em_vars.specs.Entries.{Entries, AreDistinct, keeps, value_of, with_value, without}

split : (b : Bool) (P : Bool → Type 0) → (b ≡ true → P true) → (b ≡ false → P false) → P b
split true P at_true at_false = at_true refl
split false P at_true at_false = at_false refl

same_name : (n m : List ℕ) → bytes_eq n m ≡ true → n ≡ m
same_name n m = (bytes_decides n m).0

own_name : (n : List ℕ) → bytes_eq n n ≡ true
own_name n = (bytes_decides n n).1 refl

other_name : (n m : List ℕ) → n ≢ m → bytes_eq n m ≡ false
other_name n m ne = split (bytes_eq n m) (λ b. b ≡ false)
    (λ e. absurd (ne (same_name n m e)))
    (λ e. refl)

-- ---- one name and the others

pub set_own : (es : Entries) (n : List ℕ) (v : Var) → value_of (with_value es n v) n ≡ Some v
set_own [] n v = rw (own_name n) refl
set_own (e ∷ es) n v = split (bytes_eq n e.0) (λ b. value_of (cond b ((n, v) ∷ es) (e ∷ with_value es n v)) n ≡ Some v)
    (λ is. rw (own_name n) refl)
    (λ is. rw is (set_own es n v))

pub set_other : (es : Entries) (n m : List ℕ) (v : Var) → n ≢ m → value_of (with_value es n v) m ≡ value_of es m
set_other [] n m v ne = rw (other_name m n (λ e. ne (sym e))) refl
set_other (e ∷ es) n m v ne = split (bytes_eq n e.0) (λ b. value_of (cond b ((n, v) ∷ es) (e ∷ with_value es n v)) m ≡ value_of (e ∷ es) m)
    (λ is. rw (← same_name n e.0 is, other_name m n (λ e. ne (sym e))) refl)
    (λ is. ap (cond (bytes_eq m e.0) (Some e.1)) (set_other es n m v ne))

pub set_absent : (es : Entries) (n : List ℕ) (v : Var) → value_of es n ≡ None → with_value es n v ≡ es ++ (n, v) ∷ []
set_absent [] n v none = refl
set_absent (e ∷ es) n v none = split (bytes_eq n e.0) (λ b. cond b ((n, v) ∷ es) (e ∷ with_value es n v) ≡ e ∷ (es ++ (n, v) ∷ []))
    (λ is. let bad : Some e.1 ≡ None = rw is at none in cc)
    (λ is. let rest : value_of es n ≡ None = rw is at none in ap (λ l. e ∷ l) (set_absent es n v rest))

pub names_present : (es : Entries) (n : List ℕ) (v : Var) → IsSome (value_of es n) → keys_of (with_value es n v) ≡ keys_of es
names_present [] n v some = absurd (false≢true some)
names_present (e ∷ es) n v some = split (bytes_eq n e.0) (λ b. keys_of (cond b ((n, v) ∷ es) (e ∷ with_value es n v)) ≡ e.0 ∷ keys_of es)
    (λ is. ap (λ m. m ∷ keys_of es) (same_name n e.0 is))
    (λ is. let rest : IsSome (value_of es n) = rw is at some in ap (λ l. e.0 ∷ l) (names_present es n v rest))

keys-append : (es fs : Entries) → keys_of (es ++ fs) ≡ keys_of es ++ keys_of fs
keys-append [] fs = refl
keys-append (e ∷ es) fs = ap (λ l. e.0 ∷ l) (keys-append es fs)

pub names_absent : (es : Entries) (n : List ℕ) (v : Var) → value_of es n ≡ None → keys_of (with_value es n v) ≡ keys_of es ++ n ∷ []
names_absent es n v none = rw (set_absent es n v none) (keys-append es ((n, v) ∷ []))

pub undefined_own : (es : Entries) (n : List ℕ) → value_of (without es n) n ≡ None
undefined_own [] n = refl
undefined_own (e ∷ es) n = split (bytes_eq n e.0) (λ b. value_of (cond (not b) (e ∷ without es n) (without es n)) n ≡ None)
    (λ is. undefined_own es n)
    (λ is. rw is (undefined_own es n))

pub undefined_other : (es : Entries) (n m : List ℕ) → n ≢ m → value_of (without es n) m ≡ value_of es m
undefined_other [] n m ne = refl
undefined_other (e ∷ es) n m ne = split (bytes_eq n e.0) (λ b. value_of (cond (not b) (e ∷ without es n) (without es n)) m ≡ value_of (e ∷ es) m)
    (λ is. rw (← same_name n e.0 is, other_name m n (λ e. ne (sym e))) (undefined_other es n m ne))
    (λ is. ap (cond (bytes_eq m e.0) (Some e.1)) (undefined_other es n m ne))

kept_all : (es : Entries) (n : List ℕ) → value_of es n ≡ None → es ≡ without es n
kept_all [] n none = refl
kept_all (e ∷ es) n none = split (bytes_eq n e.0) (λ b. e ∷ es ≡ cond (not b) (e ∷ without es n) (without es n))
    (λ is. let bad : Some e.1 ≡ None = rw is at none in cc)
    (λ is. let rest : value_of es n ≡ None = rw is at none in ap (λ l. e ∷ l) (kept_all es n rest))

-- ---- each name once

pub set_distinct : (es : Entries) (n : List ℕ) (v : Var) → AreDistinct es → AreDistinct (with_value es n v)
set_distinct [] n v d = (refl, tt)
set_distinct (e ∷ es) n v d = split (bytes_eq n e.0) (λ b. AreDistinct (cond b ((n, v) ∷ es) (e ∷ with_value es n v)))
    (λ is. (rw (same_name n e.0 is) d.0, d.1))
    (λ is. let ne : n ≢ e.0 = λ same. let bad : true ≡ false = sym ((bytes_decides n e.0).1 same) ∙ is in cc in (set_other es n e.0 v ne ∙ d.0, set_distinct es n v d.1))

pub undefined_distinct : (es : Entries) (n : List ℕ) → AreDistinct es → AreDistinct (without es n)
undefined_distinct [] n d = tt
undefined_distinct (e ∷ es) n d = split (bytes_eq n e.0) (λ b. AreDistinct (cond (not b) (e ∷ without es n) (without es n)))
    (λ is. undefined_distinct es n d.1)
    (λ is. let ne : n ≢ e.0 = λ same. let bad : true ≡ false = sym ((bytes_decides n e.0).1 same) ∙ is in cc in (undefined_other es n e.0 ne ∙ d.0, undefined_distinct es n d.1))

held : (es fs : Entries) (e : List ℕ × Var) → IsSome (value_of (es ++ e ∷ fs) e.0)
held [] fs e = rw (own_name e.0) refl
held (x ∷ es) fs e = split (bytes_eq e.0 x.0) (λ b. IsSome (cond b (Some x.1) (value_of (es ++ e ∷ fs) e.0)))
    (λ _. refl)
    (λ _. held es fs e)

-- the name behind a front of entries isn't in that front
front_lacks : (es fs : Entries) (e : List ℕ × Var) → AreDistinct (es ++ e ∷ fs) → value_of es e.0 ≡ None
front_lacks [] fs e d = refl
front_lacks (x ∷ es) fs e d = split (bytes_eq e.0 x.0) (λ b. cond b (Some x.1) (value_of es e.0) ≡ None)
    (λ is. absurd (false≢true (subst IsSome (ap (value_of (es ++ e ∷ fs)) (same_name e.0 x.0 is) ∙ d.0) (held es fs e))))
    (λ is. front_lacks es fs e d.1)

-- the next of the entries is set behind those that are set already
next_absent : (es done rest : Entries) (e : List ℕ × Var) → AreDistinct es → done ++ e ∷ rest ≡ es → value_of done e.0 ≡ None
next_absent es done rest e d is = front_lacks done rest e (subst AreDistinct (sym is) d)

pub set_next : (es done rest new : Entries) (e : List ℕ × Var) (n : List ℕ) (v : Var) (b : Bool) → AreDistinct es → done ++ e ∷ rest ≡ es → n ≡ e.0 → v ≡ e.1
    → b ≡ not (keeps (value_of done n) v) → (b ≡ true → new ≡ with_value done n v) → new ++ rest ≡ es
set_next es done rest new e n v b d is n_is v_is answer set =
    let none : value_of done n ≡ None = ap (value_of done) n_is ∙ next_absent es done rest e d is in
    let yes : b ≡ true = answer ∙ ap (λ o. not (keeps o v)) none in
    let entry : (n, v) ≡ e = λ i. (n_is i, v_is i) in
    rw (set yes, set_absent done n v none, append_assoc done ((n, v) ∷ []) rest) (ap (λ x. done ++ x ∷ rest) entry ∙ is)

-- ---- indexmap's words

module _ {K : Type 0} (name : K → List ℕ) where
  abbrev pub seen : List (K × Var) → Entries
  seen = map (λ e. (name e.0, e.1))

  pub seen_value : (es : List (K × Var)) (n : List ℕ) → lookup (λ k. bytes_eq n (name k)) es ≡ value_of (seen es) n
  seen_value [] n = refl
  seen_value (e ∷ es) n = ap (cond (bytes_eq n (name e.0)) (Some e.1)) (seen_value es n)

  pub seen_set : (es : List (K × Var)) (k : K) (v : Var) → seen (insert_entry (λ a b. bytes_eq (name a) (name b)) es k v) ≡ with_value (seen es) (name k) v
  seen_set [] k v = refl
  seen_set (e ∷ es) k v = split (bytes_eq (name k) (name e.0)) (λ b. seen (cond b ((e.0, v) ∷ es) (e ∷ insert_entry (λ a b. bytes_eq (name a) (name b)) es k v)) ≡ cond b ((name k, v) ∷ seen es) ((name e.0, e.1) ∷ with_value (seen es) (name k) v))
      (λ is. ap (λ n. (n, v) ∷ seen es) (sym (same_name (name k) (name e.0) is)))
      (λ is. ap (λ l. (name e.0, e.1) ∷ l) (seen_set es k v))

  -- where each name stands once, the first entry of a name is all that goes
  pub seen_undefined : (es : List (K × Var)) (n : List ℕ) → AreDistinct (seen es) → seen (remove_entry (λ k. bytes_eq n (name k)) es) ≡ without (seen es) n
  seen_undefined [] n d = refl
  seen_undefined (e ∷ es) n d = split (bytes_eq n (name e.0)) (λ b. seen (cond b es (e ∷ remove_entry (λ k. bytes_eq n (name k)) es)) ≡ cond (not b) ((name e.0, e.1) ∷ without (seen es) n) (without (seen es) n))
      (λ is. kept_all (seen es) n (rw (same_name n (name e.0) is) d.0))
      (λ is. ap (λ l. (name e.0, e.1) ∷ l) (seen_undefined es n d.1))
