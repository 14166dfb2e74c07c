use Rattle.std.proofs.Common.{◌∙◌}
use Rattle.em_vars.proofs.Named.{seen_value}
use Rattle.em_vars.proofs.vars.Vars.get.Goals as goal

pub returns : goal.returns
returns c = rw (← c.self.view_is) (c.get.ensures.value ∙ seen_value (λ k. k.items) c.self.inside.held.entries c.args.name.now)
