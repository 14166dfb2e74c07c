use Rattle.std.proofs.Common.{◌≡◌, Bool, true, false, List, [], ◌∷◌, map, Option, Some, None, cond, refl, sym, ap, ◌∙◌}
use Rattle.std.specs.Prelude.{option_and_then, unwrap_or}
use Rattle.em_cond.specs.declared.nest.Branch.{Branch}
use Rattle.em_cond.specs.declared.nest.Conditional.{Conditional}
use Rattle.em_cond.specs.Nests.{after_others, entered, otherwise, branch_from, next_branch}
use Rattle.em_cond.proofs.laws.law_branches.Goals as goal

abbrev conditions : List (Option Bool) → List Bool
conditions cs = map (λ c. unwrap_or c true) cs

branch_of : (c : Option Bool) (k : Conditional) → (otherwise c k).branch ≡ next_branch k.branch (unwrap_or c true)
branch_of None k = refl
branch_of (Some holds) k = refl

goes_on : (cs : List (Option Bool)) (j : Conditional) (ks rest : List Conditional) (k : Conditional) → after_others cs (j ∷ ks) ≡ Some (k ∷ rest) → k.branch ≡ branch_from j.branch (conditions cs)
goes_on [] j ks rest k e = let same : j ≡ k = cc in ap (λ (i : Conditional). i.branch) (sym same)
goes_on (c ∷ cs) j ks rest k e =
    elim j.closed as (λ b. option_and_then (after_others cs) (cond b None (Some (otherwise c j ∷ ks))) ≡ Some (k ∷ rest) → k.branch ≡ branch_from j.branch (conditions (c ∷ cs))) [
      | true ↦ λ f. absurd cc
      | false ↦ λ f. goes_on cs (otherwise c j) ks rest k f ∙ ap (λ (b : Branch). branch_from b (conditions cs)) (branch_of c j)
    ] e

pub returns-clause-branch : goal.returns-clause-branch
returns-clause-branch c = λ holds cs ks rest k e. goes_on cs (entered holds) ks rest k e

pub returns-clause-last : goal.returns-clause-last
returns-clause-last c = λ d k ks. elim k.closed as (λ b. option_and_then (after_others (d ∷ [])) (cond b None (Some (otherwise None k ∷ ks))) ≡ None) [ true ↦ refl | false ↦ refl ]
