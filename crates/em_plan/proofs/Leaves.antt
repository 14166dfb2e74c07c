-- What all that questions may come to has in common.
--     Each P x             every value that the questions may come to has P
--     each_any, each_so    it has it anyway; it has another instead
--     each_then            one after another
--     each_on, each_came   along the questions that were asked
--     same_then            what follows is the same for all that they may come to
--     assoc_then, assoc_walked, nothing_walked_then      one after another and another; nothing after it
--     Ends, ends_walked, ends_so, same_walked      the same of walks, where an error ends them
use Rattle.std.proofs.Common.{◌≡◌, refl, ap, Bool, Ok, Err}
use Rattle.std.specs.Prelude.{IfOk}
use Rattle.em_plan.specs.declared.walk.Walked.{Walked}
use Rattle.em_plan.specs.Order.{Walking}
use Rattle.em_implicit.specs.Asking.{Asking, Had, Ask, and_then, Asks, Follows, Here, Then}
use Rattle.em_plan.specs.Walking.{walked_then}

abbrev pub Each : {A : Type 0} → (A → Type 0) → Asking A → Type 0
Each P (Had a) = P a
Each P (Ask p k) = (v : Bool) → Each P (k v)

module _ {A : Type 0} (P : A → Type 0) where
  pub each_any : (x : Asking A) → ((a : A) → P a) → Each P x
  each_any (Had a) h = h a
  each_any (Ask p k) h = λ v. each_any (k v) h

  pub each_on : {T : Type 0} {asks : Asks T} {a b : T} {x y : Asking A} → Follows asks a b x y → Each P x → Each P y
  each_on (Here a x) h = h
  each_on (Then a b c p k y v q f) h = each_on f (h v)

  pub each_came : {T : Type 0} {asks : Asks T} {a b : T} {x : Asking A} {v : A} → Follows asks a b x (Had v) → Each P x → P v
  each_came f h = each_on f h

  pub each_so : (Q : A → Type 0) (x : Asking A) → ((a : A) → P a → Q a) → Each P x → Each Q x
  each_so Q (Had a) f h = f a h
  each_so Q (Ask p k) f h = λ v. each_so Q (k v) f (h v)

  module _ {B : Type 0} where
    pub each_then : (Q : B → Type 0) (x : Asking A) (k : A → Asking B) → Each P x → ((a : A) → P a → Each Q (k a)) → Each Q (and_then x k)
    each_then Q (Had a) k h f = f a h
    each_then Q (Ask p g) k h f = λ v. each_then Q (g v) k (h v) f

    pub same_then : (x : Asking A) (k h : A → Asking B) → Each P x → ((a : A) → P a → k a ≡ h a) → and_then x k ≡ and_then x h
    same_then (Had a) k h each f = f a each
    same_then (Ask p g) k h each f = ap (λ (r : Bool → Asking B). Ask p r) (λ i v. same_then (g v) k h (each v) f i)

pub assoc_then : {A B C : Type 0} (x : Asking A) (k : A → Asking B) (h : B → Asking C) → and_then (and_then x k) h ≡ and_then x (λ a. and_then (k a) h)
assoc_then (Had a) k h = refl
assoc_then {C} (Ask p g) k h = ap (λ (r : Bool → Asking C). Ask p r) (λ i v. assoc_then (g v) k h i)

-- ---- walks

pub assoc_walked : (x : Asking Walking) (k h : Walked → Asking Walking) → walked_then (walked_then x k) h ≡ walked_then x (λ w. walked_then (k w) h)
assoc_walked (Had (Ok w)) k h = refl
assoc_walked (Had (Err e)) k h = refl
assoc_walked (Ask p g) k h = ap (λ (r : Bool → Asking Walking). Ask p r) (λ i v. assoc_walked (g v) k h i)

-- nothing follows
pub nothing_walked_then : (x : Asking Walking) → walked_then x (λ w. Had (Ok w)) ≡ x
nothing_walked_then (Had (Ok w)) = refl
nothing_walked_then (Had (Err e)) = refl
nothing_walked_then (Ask p g) = ap (λ (r : Bool → Asking Walking). Ask p r) (λ i v. nothing_walked_then (g v) i)

abbrev pub Ends : (Walked → Type 0) → Asking Walking → Type 0
Ends P x = Each (λ (r : Walking). IfOk r P) x

module _ (P : Walked → Type 0) where
  pub ends_walked : (Q : Walked → Type 0) (x : Asking Walking) (k : Walked → Asking Walking) → Ends P x → ((w : Walked) → P w → Ends Q (k w)) → Ends Q (walked_then x k)
  ends_walked Q (Had (Ok w)) k h f = f w h
  ends_walked Q (Had (Err e)) k h f = tt
  ends_walked Q (Ask p g) k h f = λ v. ends_walked Q (g v) k (h v) f

  pub ends_so : (Q : Walked → Type 0) (x : Asking Walking) → ((w : Walked) → P w → Q w) → Ends P x → Ends Q x
  ends_so Q (Had (Ok w)) f h = f w h
  ends_so Q (Had (Err e)) f h = tt
  ends_so Q (Ask p g) f h = λ v. ends_so Q (g v) f (h v)

  pub same_walked : (x : Asking Walking) (k h : Walked → Asking Walking) → Ends P x → ((w : Walked) → P w → k w ≡ h w) → walked_then x k ≡ walked_then x h
  same_walked (Had (Ok w)) k h ends f = f w ends
  same_walked (Had (Err e)) k h ends f = refl
  same_walked (Ask p g) k h ends f = ap (λ (r : Bool → Asking Walking). Ask p r) (λ i v. same_walked (g v) k h (ends v) f i)
