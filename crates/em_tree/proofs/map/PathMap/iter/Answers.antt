use Rattle.std.proofs.Common.{◌∙◌, sym}
use Rattle.em_tree.proofs.Maps.{path_entries}
use Rattle.em_tree.proofs.map.PathMap.iter.Goals as goal

pub returns : goal.returns
returns g c = rw (← c.self.view_is) (c.iter.ensures.rest ∙ sym (path_entries c.self.inside.held.entries c.iter.ensures.ordered))
