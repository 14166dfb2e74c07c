use Rattle.std.proofs.Common.{◌≡◌, Bool, true, false, List, [], ◌∷◌, Option, Some, None, cond, refl}
use Rattle.std.specs.Prelude.{option_and_then}
use Rattle.em_cond.specs.declared.nest.Conditional.{Conditional}
use Rattle.em_cond.specs.Nests.{after_others, after_leave, entered, otherwise}
use Rattle.em_cond.proofs.laws.law_left.Goals as goal

below : (cs : List (Option Bool)) (k : Conditional) (ks rest : List Conditional) → after_others cs (k ∷ ks) ≡ Some rest → after_leave rest ≡ Some ks
below [] k ks rest e = let same : k ∷ ks ≡ rest = cc in rw (← same) refl
below (c ∷ cs) k ks rest e =
    elim k.closed as (λ b. option_and_then (after_others cs) (cond b None (Some (otherwise c k ∷ ks))) ≡ Some rest → after_leave rest ≡ Some ks) [
      | true ↦ λ f. absurd cc
      | false ↦ λ f. below cs (otherwise c k) ks rest f
    ] e

pub returns : goal.returns
returns c = λ holds cs ks rest e. below cs (entered holds) ks rest e
