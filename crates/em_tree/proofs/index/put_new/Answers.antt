use Rattle.em_tree.proofs.Indexes.{IsIndex-new, IsIndex-back}
use Rattle.em_tree.proofs.index.put_new.Goals as goal

pub returns-in-Ok-clause-index : goal.returns-in-Ok-clause-index
returns-in-Ok-clause-index g c =
    rw (c.in-Ok.ensures.ok, c.in_ok-p.ensures) (IsIndex-new c.args.children.now c.list.new.children c.args.nodes.now c.args.place.now.path c.args.n c.requires.index c.in_ok-list.ensures.ok)

pub returns-in-Err-clause-index : goal.returns-in-Err-clause-index
returns-in-Err-clause-index g c =
    rw c.in-Err.ensures.err (IsIndex-back c.args.children.now c.list.new.children c.unlist.new.children c.args.nodes.now c.args.place.now.path c.requires.index c.requires.absent c.in_ok-list.ensures.ok c.unlist.ensures)
