use Rattle.std.proofs.Common.{◌∙◌, sym}
use Rattle.em_tree.proofs.Maps.{path_len}
use Rattle.em_tree.proofs.map.PathMap.len.Goals as goal

pub returns : goal.returns
returns g c = rw (← c.self.view_is) (c.len.ensures.len ∙ sym (path_len c.self.inside.held.entries c.len.ensures.ordered))
