use Rattle.em_fileutil.proofs.copy.copy_as_file.Goals as goal

pub returns-in-Copy : goal.returns-in-Copy
returns-in-Copy g c = λ d. rw c.in-Copy.is (c.copy_file.ensures d)

pub returns-in-CopyTree : goal.returns-in-CopyTree
returns-in-CopyTree g c = λ d. rw c.in-CopyTree.is (c.copy_file-in-CopyTree.ensures d)

pub returns-in-Move : goal.returns-in-Move
returns-in-Move g c = λ d. rw c.in-Move.is (c.move_file.ensures d)
