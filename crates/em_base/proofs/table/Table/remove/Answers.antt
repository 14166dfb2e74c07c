use Rattle.std.proofs.Common.{◌∙◌}
use Rattle.em_base.proofs.Maps.{hashed_found, hashed_taken}
use Rattle.em_base.proofs.table.Table.remove.Goals as goal

pub returns-clause-value : goal.returns-clause-value
returns-clause-value g c = rw (← c.self.view_is) (c.remove.ensures.value ∙ hashed_found (λ k. k.items) c.self.inside.held.entries c.args.name.now)

pub returns-clause-rest : goal.returns-clause-rest
returns-clause-rest g c = rw (← c.self.view_is) (hashed_taken (λ k. k.items) c.self.inside.held.entries c.remove.new.self.entries c.args.name.now c.remove.ensures.updates.1 c.remove.ensures.updates.3)
