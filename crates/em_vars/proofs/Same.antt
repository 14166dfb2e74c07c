-- The tests of equality tell equal variables, and equal entries.
use Rattle.std.proofs.Common.{◌≡◌, ℕ, true, ◌&&◌, List, refl, subst, nat_eq, rules, arith}
use Rattle.std.specs.Cmp.Lexicographic.{pointwise, bytes_decides}
use Rattle.std.proofs.lemmas.Bool.{and_parts, and_from}
use Rattle.std.proofs.lemmas.Grind.{common_steps}
use Rattle.em_vars.specs.contracts.var.VarPartialEq.TheImpl as var_eq
use Rattle.em_vars.specs.contracts.var.VarEq.TheImpl.Laws as var_eq_laws
use Rattle.em_vars.specs.declared.var.Var.{Var}

same_var : (x y : Var) → var_eq.ghosts.eq x y ≡ true → x ≡ y
same_var x y e = first_of (search rules, grind (arith, common_steps))

own_var : (x : Var) → var_eq.ghosts.eq x x ≡ true
own_var x = var_eq_laws.laws-law.refl x

pub entries_decide : (p q : List ℕ × Var) → ((pointwise nat_eq p.0 q.0 && var_eq.ghosts.eq p.1 q.1) ≡ true → p ≡ q) × (p ≡ q → (pointwise nat_eq p.0 q.0 && var_eq.ghosts.eq p.1 q.1) ≡ true)
entries_decide p q = (
  λ e. let both = and_parts _ _ e in let name : p.0 ≡ q.0 = (bytes_decides p.0 q.0).0 both.0 in let v : p.1 ≡ q.1 = same_var p.1 q.1 both.1 in λ i. (name i, v i),
  λ e. subst (λ (r : List ℕ × Var). (pointwise nat_eq p.0 r.0 && var_eq.ghosts.eq p.1 r.1) ≡ true) e (and_from _ _ ((bytes_decides p.0 p.0).1 refl) (own_var p.1)),
)
