use Rattle.std.proofs.Common.{◌∙◌, ◌&&◌, nat_eq, sym, ap₂}
use Rattle.std.specs.Cmp.Lexicographic.{pointwise}
use Rattle.std.specs.Cmp.Derive.Mapped.{pointwise-map}
use Rattle.em_vars.specs.contracts.var.VarPartialEq.TheImpl as var_eq
use Rattle.em_vars.proofs.vars.VarsPartialEq.eq.Goals as goal

pub returns : goal.returns
returns c = rw (← c.self.view_is, ← c.other.view_is) (
    c.eq.ensures ∙ ap₂ (pointwise _) c.as_slice.ensures.entries c.as_slice-2.ensures.entries
    ∙ sym (pointwise-map (λ e. (e.0.items, e.1)) (λ p q. pointwise nat_eq p.0 q.0 && var_eq.ghosts.eq p.1 q.1) c.self.inside.held.entries c.other.inside.held.entries))
