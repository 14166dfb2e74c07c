use Rattle.std.proofs.Common.{◌∙◌, ap, sym, subst}
use Rattle.em_vars.specs.Entries.{AreDistinct}
use Rattle.em_vars.proofs.Named.{seen, seen_undefined, undefined_distinct}
use Rattle.em_vars.proofs.vars.Vars.undefine.Goals as goal

pub invariant_of-self : goal.invariant_of-self
invariant_of-self c = subst AreDistinct
    (sym (ap (seen (λ k. k.items)) c.shift_remove.ensures.entries ∙ seen_undefined (λ k. k.items) c.self.inside.held.entries c.args.name.now c.self.invariant))
    (undefined_distinct _ c.args.name.now c.self.invariant)

pub returns : goal.returns
returns c = rw (← c.self.view_is)
    (ap (seen (λ k. k.items)) c.shift_remove.ensures.entries ∙ seen_undefined (λ k. k.items) c.self.inside.held.entries c.args.name.now c.self.invariant)
