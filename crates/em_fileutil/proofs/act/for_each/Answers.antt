use Rattle.em_base.proofs.Lemmas.{left_at, none_at}
use Rattle.em_fileutil.proofs.Spotting.{each_stop, each_more, each_end}
use Rattle.em_fileutil.specs.Acts.{act_for}
use Rattle.em_fileutil.proofs.act.for_each.Goals as goal

pub loop-operand-init : goal.loop-operand-init
loop-operand-init g c = λ new u r p. p

pub returns-in_err-settle : goal.returns-in_err-settle
returns-in_err-settle g c = each_stop c.args.utility.now (act_for c.args.utility.now c.args.what.now c.args.cwd.now) c.args.operands.now c.loop-operand.operand-index c.loop-operand.invariant c.operand-item.result (left_at c.args.operands.now c.loop-operand.operand-index c.operand-item.result c.loop-operand-test.true c.operand-item.is) c.from_residual.ensures.1 c.in_err-settle.ensures (rw c.bytes.ensures at c.act_for-given.ensures)

pub loop-operand-preserved : goal.loop-operand-preserved
loop-operand-preserved g c = each_more c.args.utility.now (act_for c.args.utility.now c.args.what.now c.args.cwd.now) c.args.operands.now c.loop-operand.operand-index c.loop-operand.invariant c.operand-item.result (left_at c.args.operands.now c.loop-operand.operand-index c.operand-item.result c.loop-operand-test.true c.operand-item.is) c.in_ok-settle.ensures (rw c.bytes.ensures at c.act_for-given.ensures)

pub returns : goal.returns
returns g c = each_end c.args.utility.now (act_for c.args.utility.now c.args.what.now c.args.cwd.now) c.args.operands.now c.loop-operand.operand-index c.loop-operand.invariant (none_at c.args.operands.now c.loop-operand.operand-index c.loop-operand-test.false)
