use Rattle.em_fileutil.proofs.copy.copy_top.Goals as goal

pub returns-in-Move : goal.returns-in-Move
returns-in-Move g c = rw c.in-Move.is (rw c.in-Move.is at c.copy_linked.ensures)

pub returns-in-Copy : goal.returns-in-Copy
returns-in-Copy g c = rw c.in-Copy.is (rw c.in-Copy.is at c.copy_node.ensures)

pub returns-in-CopyTree : goal.returns-in-CopyTree
returns-in-CopyTree g c = rw c.in-CopyTree.is (rw c.in-CopyTree.is at c.copy_node-in-CopyTree.ensures)
