use Rattle.std.proofs.Common.{◌∙◌}
use Rattle.em_tree.proofs.Maps.{path_found}
use Rattle.em_tree.proofs.map.PathMap.get.Goals as goal

pub returns : goal.returns
returns g c = rw (← c.self.view_is) (c.get.ensures.value ∙ path_found c.self.inside.held.entries c.args.p.now)
