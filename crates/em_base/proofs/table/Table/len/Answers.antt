use Rattle.std.proofs.Common.{◌∙◌, sym}
use Rattle.em_base.proofs.Maps.{hashed_len}
use Rattle.em_base.proofs.table.Table.len.Goals as goal

pub returns : goal.returns
returns g c = rw (← c.self.view_is) (c.len.ensures.len ∙ sym (hashed_len (λ k. k.items) c.self.inside.held.entries c.len.ensures.unique))
