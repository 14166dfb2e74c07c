-- What a front finds of a run's usage.
use Rattle.std.proofs.Common.{◌≡◌, ℕ, suc, ◌<◌, ◌≤◌, List, [], ◌∷◌, Some, None, length, refl, ap, arith, slice_get}
use Rattle.std.specs.Prelude.{IfSome, Option, nat_eq, true}
use Rattle.std.specs.Option.{option_eq}
use Rattle.std.specs.Cmp.Lexicographic.{pointwise, pointwise_decides, bytes_decides}
use Rattle.std.proofs.lemmas.Option.{same_Some}
use Rattle.em_tree.specs.declared.question.Answer.TheVariants as told
use Rattle.em_tree.specs.declared.question.Entry.{Entry}
use Rattle.em_tree.specs.declared.state.State.{State}
use Rattle.em_tree.specs.Answers.{Agrees}
use Rattle.em_engine.specs.Verdicts.{AgreesAt}

-- lists that are alike as far as the first goes, which isn't shorter, are the same
pub same_lists : {A : Type 0} (xs ys : List A) → length ys ≤ length xs → ((k : ℕ) → k < length xs → slice_get xs k ≡ slice_get ys k) → xs ≡ ys
same_lists [] [] le same = refl
same_lists [] (y ∷ ys) le same = absurd (omega arith)
same_lists (x ∷ xs) [] le same = let e : Some x ≡ None = same 0 (omega arith) in absurd (cc)
same_lists (x ∷ xs) (y ∷ ys) le same =
    let here : x ≡ y = same_Some x y (same 0 (omega arith)) in
    let rest : xs ≡ ys = same_lists xs ys (omega arith) (λ k lt. same (suc k) (omega (arith, lt))) in
    λ i. here i ∷ rest i

-- a state that agrees with each entry agrees with them all
pub agrees_all : (s : State) (es : List Entry) → ((k : ℕ) → k < length es → IfSome (slice_get es k) (AgreesAt s)) → Agrees s es
agrees_all s [] each = tt
agrees_all s (e ∷ es) each = (each 0 (omega arith), agrees_all s es (λ k lt. each (suc k) (omega (arith, lt))))

-- names are the same where the test says so
pub same_names : (x y : Option (List (List ℕ))) → (option_eq (pointwise (pointwise nat_eq)) x y ≡ true → x ≡ y) × (x ≡ y → option_eq (pointwise (pointwise nat_eq)) x y ≡ true)
same_names None None = ((λ h. refl), (λ h. refl))
same_names None (Some ys) = ((λ h. absurd (cc)), (λ h. absurd (cc)))
same_names (Some xs) None = ((λ h. absurd (cc)), (λ h. absurd (cc)))
same_names (Some xs) (Some ys) = ((λ h. ap (λ (zs : List (List ℕ)). Some zs) ((pointwise_decides bytes_decides xs ys).0 h)), (λ h. (pointwise_decides bytes_decides xs ys).1 (same_Some xs ys h)))

pub same_told : (x y : Option (List (List ℕ))) → told.Names x ≡ told.Names y → x ≡ y
same_told x y h = cc
