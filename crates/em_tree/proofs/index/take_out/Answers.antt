use Rattle.em_tree.proofs.Indexes.{IsIndex-gone}
use Rattle.em_tree.proofs.index.take_out.Goals as goal

pub returns-clause-index : goal.returns-clause-index
returns-clause-index g c =
    rw c.remove.ensures (IsIndex-gone c.args.children.now c.unlist.new.children c.args.nodes.now c.args.place.now.path c.requires.index c.unlist.ensures)
