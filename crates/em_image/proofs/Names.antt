-- The part that is a path.
use Rattle.std.proofs.Common.{◌≡◌, ℕ, true, false, eqb, List, Option, Some, Ok, Err, refl, sym, subst, ◌∙◌}
use Rattle.std.specs.Prelude.{IfSome, IsNone}
use Rattle.em_path.specs.Paths.{IsPath, is_path}
use Rattle.em_path.proofs.Lemmas.{path_pass, no_path}
use Rattle.em_image.specs.declared.no.ImageNo.TheVariants as no
use Rattle.em_image.specs.Parts.{Here, skip, until_at, path_at}

pub no_path_at : (here : Here) (x : List ℕ × Here) → until_at (λ b. eqb b 10) here ≡ Ok x → (IsPath x.0 → ⊥) → path_at here ≡ Err (no.Path here.at)
unfolding path_at
no_path_at here x e n = rw (e, no_path x.0 n) refl

-- `o` is what was found of the text
pub some_path_at : (here : Here) (x : List ℕ × Here) (o : Option (List ℕ)) (path : List ℕ) → until_at (λ b. eqb b 10) here ≡ Ok x → o ≡ Some path → IfSome o (λ p. p ≡ x.0) → ((IsPath x.0 → ⊥) → IsNone o) → path_at here ≡ Ok (path, skip 1 x.1)
unfolding path_at
some_path_at here x o path e is same none =
    let p : path ≡ x.0 = subst (λ o. IfSome o (λ p. p ≡ x.0)) is same in
    let it : is_path x.0 ≡ true = elim (is_path x.0) as (λ b. is_path x.0 ≡ b → is_path x.0 ≡ true) [
      | true ↦ λ t. t
      | false ↦ λ f. let bad : true ≡ false = subst (λ o. IsNone o) is (none (λ h. let k : true ≡ false = sym (path_pass x.0 h) ∙ f in absurd cc)) in absurd cc
    ] refl in
    rw (e, it, p) refl
