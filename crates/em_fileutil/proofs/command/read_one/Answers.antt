use Rattle.em_view.proofs.Doing.{owned_s}
use Rattle.em_utility.proofs.Trying.{caught_by}
use Rattle.em_fileutil.proofs.Linked.{read_none, read_single, read_more}
use Rattle.em_fileutil.proofs.command.read_one.Goals as goal

pub returns-in-empty : goal.returns-in-empty
returns-in-empty g c = read_none c.args.utility.now c.args.cwd.now c.args.operands.now c.in-empty.len_below (owned_s _ c.missing.ensures)

pub returns-in-len1 : goal.returns-in-len1
returns-in-len1 g c = read_single c.args.utility.now c.args.cwd.now c.args.operands.now c.name-item.result c.in-len1.len_at_least c.in-len1.len_below c.name-item.is (caught_by _ c.settle.ensures (rw c.bytes.ensures at c.read_link-given.ensures))

pub returns-in_default : goal.returns-in_default
returns-in_default g c = read_more c.args.utility.now c.args.cwd.now c.args.operands.now c.in_default.len_at_least (owned_s _ c.extra.ensures)
