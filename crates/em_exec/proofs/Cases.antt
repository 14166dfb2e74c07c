-- Lists that are empty or not, numbers of levels, and steps that look at the status.
use Rattle.std.proofs.Common.{◌≡◌, ◌≢◌, ◌-◌, ◌<◌, ◌==◌, ℕ, zero, suc, Bool, true, false, List, [], ◌∷◌, length, Result, refl, sym, ap, subst, arith}
use Rattle.std.proofs.lemmas.Bool.{eqb-true}
use Rattle.em_view.specs.Performs.{DeskState, Told}
use Rattle.em_view.specs.Steps.{Does, own}
use Rattle.em_syntax.specs.declared.tree.AndOr.{AndOr}
use Rattle.em_command.specs.declared.jump.Jump.{Jump}
use Rattle.em_command.specs.declared.here.Here.{Here}
use Rattle.em_command.specs.declared.here.Scene.{Scene}
use Rattle.em_command.specs.Jumps.{is_free, Acts}
use Rattle.em_exec.specs.Words.{Deeper}
use Rattle.em_exec.specs.Running.{by_status, status_is, script_of, in_order, all_rounds, rounds, is_none, if_zero}

pub one_more : (left : ℕ) → left ≢ 0 → left ≡ suc (left - 1)
one_more zero h = absurd (h refl)
one_more (suc n) h = let e : suc n - 1 ≡ n = omega arith in ap suc (let b : n ≡ suc n - 1 = omega arith in b)

-- a list with an item isn't empty
isnt_empty : {X : Type 0} (x : X) (xs : List X) → (length (x ∷ xs) == 0) ≡ true → ⊥
isnt_empty x xs e = omega (arith, eqb-true (length (x ∷ xs)) 0 e)

module _ (deeper : Deeper) (scene : Scene) where
  pub no_list : (xs : List AndOr) → (length xs == 0) ≡ true → script_of deeper scene xs ≡ own (status_is 0)
  no_list [] e = refl
  no_list (x ∷ xs) e = absurd (isnt_empty x xs e)

  pub some_list : (xs : List AndOr) → (length xs == 0) ≡ false → script_of deeper scene xs ≡ in_order deeper scene xs
  some_list [] e = absurd (let no : true ≡ false = e in cc)
  some_list (x ∷ xs) e = refl

module _ (name : List ℕ) (body : Acts (Unit {0})) where
  pub no_words : (ws : List (List ℕ)) → (length ws == 0) ≡ true → all_rounds name body ws ≡ own (status_is 0)
  no_words [] e = refl
  no_words (w ∷ ws) e = absurd (isnt_empty w ws e)

  pub some_words : (ws : List (List ℕ)) → (length ws == 0) ≡ false → all_rounds name body ws ≡ rounds name body ws
  some_words [] e = absurd (let no : true ≡ false = e in cc)
  some_words (w ∷ ws) e = refl

pub none_by_length : (ws : List (List ℕ)) → is_none ws ≡ (length ws == 0)
none_by_length [] = refl
none_by_length (w ∷ ws) = by_end (length (w ∷ ws) == 0) refl
  where
    by_end : (b : Bool) → (length (w ∷ ws) == 0) ≡ b → false ≡ (length (w ∷ ws) == 0)
    by_end true e = absurd (isnt_empty w ws e)
    by_end false e = sym e

pub by_status_s : {V A : Type 0} {tells : V → Told} {old new : DeskState V} {h u : Here} {r : Result A Jump} (f : ℕ → Acts A) → Does is_free tells old new h u r (f h.shell.status) → Does is_free tells old new h u r (by_status f)
by_status_s f p = record { performs = p.performs }

-- a status that is 0, or another
module _ {V : Type 0} {tells : V → Told} {old new : DeskState V} {h u : Here} {r : Result (Unit {0}) Jump} (m other : Acts (Unit {0})) where
  pub zero_s : (n : ℕ) → n ≡ 0 → Does is_free tells old new h u r m → Does is_free tells old new h u r (if_zero n m other)
  zero_s n e p = subst (λ (k : ℕ). Does is_free tells old new h u r (if_zero k m other)) (sym e) p

  pub other_s : (n : ℕ) → n ≢ 0 → Does is_free tells old new h u r other → Does is_free tells old new h u r (if_zero n m other)
  other_s n e p = by_end (n == 0) refl
    where
      by_end : (b : Bool) → (n == 0) ≡ b → Does is_free tells old new h u r (if_zero n m other)
      by_end true z = absurd (e (eqb-true n 0 z))
      by_end false z = rw z p

pub nothing_left : {X : Type 0} (xs : List X) → (length xs == 0) ≡ true → xs ≡ []
nothing_left [] e = refl
nothing_left (x ∷ xs) e = absurd (isnt_empty x xs e)

pub none_left : {X : Type 0} (xs : List X) → length xs ≡ 0 → xs ≡ []
none_left [] e = refl
none_left (x ∷ xs) e = absurd (omega (arith, e))

pub above : (n gas : ℕ) → n < gas → gas ≡ suc (gas - 1)
above n zero h = absurd (omega (arith, h))
above n (suc k) h = one_more (suc k) (λ e. absurd (omega (arith, e)))
