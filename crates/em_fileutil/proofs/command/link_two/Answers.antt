use Rattle.em_view.proofs.Doing.{owned_s}
use Rattle.em_utility.proofs.Trying.{caught_by}
use Rattle.em_fileutil.proofs.Linked.{link_few, link_both, link_more}
use Rattle.em_fileutil.proofs.command.link_two.Goals as goal

pub returns-in_default : goal.returns-in_default
returns-in_default g c = link_few c.args.utility.now c.args.cwd.now c.args.force c.args.operands.now c.in_default.len_below (owned_s _ c.missing.ensures)

pub returns-in-len2 : goal.returns-in-len2
returns-in-len2 g c = link_both c.args.utility.now c.args.cwd.now c.args.force c.args.operands.now c.text-item.result c.name-item.result c.in-len2.len_at_least c.in-len2.len_below c.text-item.is c.name-item.is
    (caught_by _ c.settle.ensures (rw (c.bytes.ensures, c.bytes-in-len2.ensures) at (c.link_operand-given.ensures c.args.done.now)))

pub returns-in-len3-up : goal.returns-in-len3-up
returns-in-len3-up g c = link_more c.args.utility.now c.args.cwd.now c.args.force c.args.operands.now c.in-len3-up.len_at_least (owned_s _ c.extra.ensures)
