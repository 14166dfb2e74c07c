use Rattle.std.proofs.Common.{◌∙◌, ap, sym, subst}
use Rattle.em_vars.specs.Entries.{AreDistinct}
use Rattle.em_vars.proofs.Named.{seen, seen_set, set_distinct}
use Rattle.em_vars.proofs.vars.Vars.set.Goals as goal

pub invariant_of-self-2 : goal.invariant_of-self-2
invariant_of-self-2 c =
    let is = ap (seen (λ k. k.items)) c.in_ok-insert.ensures.entries ∙ seen_set (λ k. k.items) c.self.inside.held.entries c.into_vec.result c.args.v in
    subst AreDistinct (sym is) (set_distinct _ c.into_vec.result.items c.args.v c.self.invariant)

pub returns-clause-set : goal.returns-clause-set
returns-clause-set c _ = rw (← c.self.view_is, ← c.into_vec.ensures)
    (ap (seen (λ k. k.items)) c.in_ok-insert.ensures.entries ∙ seen_set (λ k. k.items) c.self.inside.held.entries c.into_vec.result c.args.v)
