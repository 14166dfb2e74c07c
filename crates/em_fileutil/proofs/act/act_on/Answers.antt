use Rattle.em_fileutil.proofs.act.act_on.Goals as goal

pub returns-in-Copy : goal.returns-in-Copy
returns-in-Copy g c = rw c.in-Copy.is c.copy_operand.ensures

pub returns-in-Remove : goal.returns-in-Remove
returns-in-Remove g c = rw c.in-Remove.is c.remove_node.ensures

pub returns-in-MakeDirectory : goal.returns-in-MakeDirectory
returns-in-MakeDirectory g c = rw c.in-MakeDirectory.is (c.make_directory.ensures c.args.done.now)

pub returns-in-RemoveDirectory : goal.returns-in-RemoveDirectory
returns-in-RemoveDirectory g c = rw c.in-RemoveDirectory.is (c.remove_directory.ensures c.args.done.now)

pub returns-in-Touch : goal.returns-in-Touch
returns-in-Touch g c = rw c.in-Touch.is (c.touch_operand.ensures c.args.done.now)

pub returns-in-ListDirectory : goal.returns-in-ListDirectory
returns-in-ListDirectory g c = rw c.in-ListDirectory.is c.list_operand.ensures
