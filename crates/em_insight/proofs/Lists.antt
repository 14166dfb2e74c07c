-- What holds of each element, or of some.
use Rattle.std.proofs.Common.{◌≡◌, ◌⊎◌, inl, inr, List, [], ◌∷◌, ◌++◌, refl, subst}
use Rattle.std.specs.Prelude.{Result, Ok, Err, OnOk}
use Rattle.em_insight.specs.Each.{Each, Any}

pub each_of : {A : Type 0} (P : A → Type 0) (xs : List A) (x : A) → Each P xs → Any (λ y. y ≡ x) xs → P x
each_of P [] x h a = absurd a
each_of P (y ∷ ys) x h (inl e) = subst P e h.0
each_of P (y ∷ ys) x h (inr a) = each_of P ys x h.1 a

pub each_map : {A : Type 0} (P Q : A → Type 0) (xs : List A) → ((x : A) → P x → Q x) → Each P xs → Each Q xs
each_map P Q [] f h = tt
each_map P Q (x ∷ xs) f h = (f x h.0, each_map P Q xs f h.1)

pub each_both : {A : Type 0} (P Q R : A → Type 0) (xs : List A) → ((x : A) → P x → Q x → R x) → Each P xs → Each Q xs → Each R xs
each_both P Q R [] f h g = tt
each_both P Q R (x ∷ xs) f h g = (f x h.0 g.0, each_both P Q R xs f h.1 g.1)

pub each_front : {A : Type 0} (P : A → Type 0) (xs ys : List A) → Each P (xs ++ ys) → Each P xs
each_front P [] ys h = tt
each_front P (x ∷ xs) ys h = (h.0, each_front P xs ys h.1)

pub each_last : {A : Type 0} (P : A → Type 0) (xs : List A) (x : A) → Each P (xs ++ x ∷ []) → P x
each_last P [] x h = h.0
each_last P (y ∷ ys) x h = each_last P ys x h.1

pub each_join : {A : Type 0} (P : A → Type 0) (xs : List A) (x : A) → Each P xs → P x → Each P (xs ++ x ∷ [])
each_join P [] x h p = (p, tt)
each_join P (y ∷ ys) x h p = (h.0, each_join P ys x h.1 p)

pub any_map : {A : Type 0} (P Q : A → Type 0) (xs : List A) → ((x : A) → P x → Q x) → Any P xs → Any Q xs
any_map P Q [] f a = absurd a
any_map P Q (x ∷ xs) f (inl p) = inl (f x p)
any_map P Q (x ∷ xs) f (inr a) = inr (any_map P Q xs f a)

pub any_left : {A : Type 0} (P : A → Type 0) (xs ys : List A) → Any P xs → Any P (xs ++ ys)
any_left P [] ys a = absurd a
any_left P (x ∷ xs) ys (inl p) = inl p
any_left P (x ∷ xs) ys (inr a) = inr (any_left P xs ys a)

pub any_last : {A : Type 0} (P : A → Type 0) (xs : List A) (x : A) → P x → Any P (xs ++ x ∷ [])
any_last P [] x p = inl p
any_last P (y ∷ ys) x p = inr (any_last P ys x p)

pub any_split : {A : Type 0} (P : A → Type 0) (xs : List A) (x : A) → Any P (xs ++ x ∷ []) → Any P xs ⊎ P x
any_split P [] x (inl p) = inr p
any_split P [] x (inr a) = absurd a
any_split P (y ∷ ys) x (inl p) = inl (inl p)
any_split P (y ∷ ys) x (inr a) = by (any_split P ys x a)
  where
    by : Any P ys ⊎ P x → (P y ⊎ Any P ys) ⊎ P x
    by (inl b) = inl (inr b)
    by (inr p) = inr p

-- some element that has a property that each has, too
pub any_each : {A : Type 0} (P Q : A → Type 0) (xs : List A) → Each P xs → Any Q xs → Any (λ x. P x × Q x) xs
any_each P Q [] h a = absurd a
any_each P Q (x ∷ xs) h (inl q) = inl (h.0, q)
any_each P Q (x ∷ xs) h (inr a) = inr (any_each P Q xs h.1 a)

pub any_none : {A : Type 0} (P : A → Type 0) (xs : List A) → Each (λ x. P x → ⊥) xs → Any P xs → ⊥
any_none P [] h a = a
any_none P (x ∷ xs) h (inl p) = h.0 p
any_none P (x ∷ xs) h (inr a) = any_none P xs h.1 a

-- an element and what it has
pub any_some : {A : Type 0} (P : A → Type 0) (xs : List A) → Any P xs → (x : A) × P x
any_some P [] a = absurd a
any_some P (x ∷ xs) (inl p) = (x, p)
any_some P (x ∷ xs) (inr a) = any_some P xs a

-- each has it, or some has the other
pub each_or : {A : Type 0} (P Q : A → Type 0) (xs : List A) → Each (λ x. P x ⊎ Q x) xs → Each P xs ⊎ Any Q xs
each_or P Q [] h = inl tt
each_or P Q (x ∷ xs) h = by h.0 (each_or P Q xs h.1)
  where
    by : P x ⊎ Q x → Each P xs ⊎ Any Q xs → (P x × Each P xs) ⊎ (Q x ⊎ Any Q xs)
    by (inl p) (inl all) = inl (p, all)
    by (inl p) (inr a) = inr (inr a)
    by (inr q) rest = inr (inl q)

-- each element is one of the list
pub each_own : {A : Type 0} (P : A → Type 0) (xs : List A) → ((x : A) → Any (λ y. y ≡ x) xs → P x) → Each P xs
each_own P [] f = tt
each_own P (x ∷ xs) f = (f x (inl refl), each_own P xs (λ y a. f y (inr a)))

-- ---- where a call answered Ok

pub on_ok : {T E P Q : Type 0} (r : Result T E) → (P → Q) → OnOk r P → OnOk r Q
on_ok (Ok x) f p = f p
on_ok (Err e) f p = tt

pub on_both : {T E P Q R : Type 0} (r : Result T E) → (P → Q → R) → OnOk r P → OnOk r Q → OnOk r R
on_both (Ok x) f p q = f p q
on_both (Err e) f p q = tt
