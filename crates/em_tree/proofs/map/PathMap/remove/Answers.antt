use Rattle.em_tree.proofs.Maps.{path_taken}
use Rattle.em_tree.proofs.map.PathMap.remove.Goals as goal

pub returns : goal.returns
returns g c = rw (← c.self.view_is) (path_taken c.self.inside.held c.remove.new.self c.args.p.now c.remove.ensures.updates)
