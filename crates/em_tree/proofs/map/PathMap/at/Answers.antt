use Rattle.std.proofs.lemmas.Iterator.Consumers.{YieldsList-from_rest, nth_from_yields_List}
use Rattle.em_tree.proofs.Maps.{at_is}
use Rattle.em_tree.proofs.map.PathMap.at.Goals as goal

pub returns : goal.returns
returns g c = rw (← c.self.view_is) (at_is _ _ c.self.inside.held.entries c.args.i (nth_from_yields_List _ _ c.args.i c.nth.ensures.ran (YieldsList-from_rest _ c.iter.ensures.rest)) c.iter.ensures.ordered)
