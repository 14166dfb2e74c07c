use Rattle.std.proofs.Common.{◌∙◌, sym}
use Rattle.em_base.proofs.Maps.{at_err, hashed_put, hashed_found}
use Rattle.em_base.proofs.table.Table.insert.Goals as goal

pub returns-clause-ok : goal.returns-clause-ok
returns-clause-ok g c = rw (← c.self.view_is, ← c.into_vec.ensures)
    (hashed_put (λ k. k.items) c.self.inside.held.entries c.insert.new.self.entries c.into_vec.result.items c.args.value c.in_ok-insert.ensures.updates.1 c.in_ok-insert.ensures.updates.3)

pub returns-in_err-insert-clause-absent : goal.returns-in_err-insert-clause-absent
returns-in_err-insert-clause-absent g c = rw (← c.self.view_is, ← c.into_vec.ensures)
    (at_err _ (sym (hashed_found (λ k. k.items) c.self.inside.held.entries c.into_vec.result.items) ∙ c.in_err-insert.ensures.absent))
