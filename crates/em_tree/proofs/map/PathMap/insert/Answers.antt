use Rattle.std.proofs.Common.{◌∙◌, sym}
use Rattle.em_tree.proofs.Maps.{path_put, path_found, at_err}
use Rattle.em_tree.proofs.map.PathMap.insert.Goals as goal

pub returns-clause-ok : goal.returns-clause-ok
returns-clause-ok g c = rw (← c.self.view_is) (path_put c.self.inside.held c.insert.new.self c.args.p c.args.v c.in_ok-insert.ensures.updates)

pub returns-in_err-insert-clause-absent : goal.returns-in_err-insert-clause-absent
returns-in_err-insert-clause-absent g c = rw (← c.self.view_is) (at_err _ (sym (path_found c.self.inside.held.entries c.args.p) ∙ c.in_err-insert.ensures.absent))
