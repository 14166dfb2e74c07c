use Rattle.std.proofs.Common.{◌∙◌}
use Rattle.em_base.proofs.Maps.{hashed_found}
use Rattle.em_base.proofs.table.Table.get.Goals as goal

pub returns : goal.returns
returns g c = rw (← c.self.view_is) (c.get.ensures.value ∙ hashed_found (λ k. k.items) c.self.inside.held.entries c.args.name.now)
