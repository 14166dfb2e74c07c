use Rattle.std.proofs.Common.{arith}
use Rattle.std.specs.Prelude.{codes}
use Rattle.em_base.proofs.Lemmas.{left_at, none_at}
use Rattle.em_view.proofs.Doing.{then_s, leave_s, refused_s}
use Rattle.em_utility.proofs.Trying.{named_s}
use Rattle.em_fileutil.proofs.Spotting.{there_s, given_s, ending_ok, ending_err, each_stop, each_more, each_end, yes_s, no_s}
use Rattle.em_fileutil.proofs.Levels.{remove_level}
use Rattle.em_fileutil.specs.Removing.{remove_child, remove_tree, remove_other, remove_node, remove_beneath}
use Rattle.em_fileutil.proofs.remove.+removal.Goals as goal

pub remove_node-returns-in_err-_text : goal.remove_node-returns-in_err-_text
unfolding remove_node
remove_node-returns-in_err-_text g t c = leave_s _ c.from_residual.ensures.1 (named_s _ c.in_err-_text.ensures c.link.ensures.performs)

pub remove_node-returns-in-Some : goal.remove_node-returns-in-Some
unfolding remove_node
remove_node-returns-in-Some g t c = then_s _ (named_s _ c.in_ok-_text.ensures c.link.ensures.performs) (rw c.in-Some.is (named_s _ c.tried-in-Some.ensures c.remove.ensures.performs))

pub remove_node-returns-in-None : goal.remove_node-returns-in-None
unfolding remove_node
remove_node-returns-in-None g t c = then_s _ (named_s _ c.in_ok-_text.ensures c.link.ensures.performs) (rw c.in-None.is c.remove_other.ensures)

pub remove_other-returns-in_err-tried : goal.remove_other-returns-in_err-tried
unfolding remove_other
remove_other-returns-in_err-tried g t c = leave_s _ c.from_residual.ensures.1 (named_s _ c.in_err-tried.ensures c.kind.ensures.performs)

pub remove_other-returns-in-Absent : goal.remove_other-returns-in-Absent
unfolding remove_other
remove_other-returns-in-Absent g t c = then_s _ (named_s _ c.in_ok-tried.ensures c.kind.ensures.performs) (rw c.in-Absent.is (given_s _ c.absent.ensures))

pub remove_other-returns-in-File : goal.remove_other-returns-in-File
unfolding remove_other
remove_other-returns-in-File g t c = then_s _ (named_s _ c.in_ok-tried.ensures c.kind.ensures.performs) (rw c.in-File.is (named_s _ c.tried-in-File.ensures c.remove.ensures.performs))

pub remove_other-returns-in-Link : goal.remove_other-returns-in-Link
unfolding remove_other
remove_other-returns-in-Link g t c = then_s _ (named_s _ c.in_ok-tried.ensures c.kind.ensures.performs) (rw c.in-Link.is (named_s _ c.tried-in-Link.ensures c.remove-in-Link.ensures.performs))

pub remove_other-returns-then-how : goal.remove_other-returns-then-how
unfolding remove_other
remove_other-returns-then-how g t c = then_s _ (named_s _ c.in_ok-tried.ensures c.kind.ensures.performs) (rw c.in-Dir.is (yes_s c.args.how.recursive _ c.if-how.true c.remove_tree.ensures))

pub remove_other-returns-else-how : goal.remove_other-returns-else-how
unfolding remove_other
remove_other-returns-else-how g t c = then_s _ (named_s _ c.in_ok-tried.ensures c.kind.ensures.performs) (rw c.in-Dir.is (no_s c.args.how.recursive _ c.if-how.false (refused_s _ c.told.ensures)))

pub remove_tree-returns-in_err-inside : goal.remove_tree-returns-in_err-inside
unfolding remove_tree
remove_tree-returns-in_err-inside g t c = leave_s _ c.from_residual.ensures.1 (there_s _ c.in_err-inside.ensures c.names.ensures.performs)

pub remove_tree-returns-in_err-remove_each : goal.remove_tree-returns-in_err-remove_each
unfolding remove_tree
remove_tree-returns-in_err-remove_each g t c = then_s _ (there_s _ c.in_ok-inside.ensures c.names.ensures.performs) (leave_s _ c.from_residual-in_err-remove_each.ensures.1 (ending_err (rw c.names-2.ensures.names at c.in_err-remove_each.ensures)))

pub remove_tree-returns : goal.remove_tree-returns
unfolding remove_tree
remove_tree-returns g t c = then_s _ (there_s _ c.in_ok-inside.ensures c.names.ensures.performs) (then_s _ (ending_ok (rw c.names-2.ensures.names at c.in_ok-remove_each.ensures)) (named_s _ c.tried.ensures c.remove.ensures.performs))

pub remove_each-loop-name-init : goal.remove_each-loop-name-init
remove_each-loop-name-init g t c = λ new u r p. p

pub remove_each-returns-in_err-settle : goal.remove_each-returns-in_err-settle
remove_each-returns-in_err-settle g t c = each_stop (codes "rm") (remove_child (remove_beneath c.args.how c.args.left) c.args.operand.now) c.args.names.now c.loop-name.name-index c.loop-name.invariant c.name-item.result (left_at c.args.names.now c.loop-name.name-index c.name-item.result c.loop-name-test.true c.name-item.is) c.from_residual.ensures.1 c.in_err-settle.ensures (rw c.bytes.ensures at c.remove_child-given.ensures)

pub remove_each-loop-name-preserved : goal.remove_each-loop-name-preserved
remove_each-loop-name-preserved g t c = each_more (codes "rm") (remove_child (remove_beneath c.args.how c.args.left) c.args.operand.now) c.args.names.now c.loop-name.name-index c.loop-name.invariant c.name-item.result (left_at c.args.names.now c.loop-name.name-index c.name-item.result c.loop-name-test.true c.name-item.is) c.in_ok-settle.ensures (rw c.bytes.ensures at c.remove_child-given.ensures)

pub remove_each-returns : goal.remove_each-returns
remove_each-returns g t c = each_end (codes "rm") (remove_child (remove_beneath c.args.how c.args.left) c.args.operand.now) c.args.names.now c.loop-name.name-index c.loop-name.invariant (none_at c.args.names.now c.loop-name.name-index c.loop-name-test.false)

pub remove_child-returns-in_err-child : goal.remove_child-returns-in_err-child
remove_child-returns-in_err-child g t c = leave_s _ c.from_residual.ensures.1 (given_s _ c.in_err-child.ensures)

pub remove_child-returns-then-left-eq0 : goal.remove_child-returns-then-left-eq0
remove_child-returns-then-left-eq0 g t c = then_s _ (given_s _ c.in_ok-child.ensures) (rw c.if-left-eq0.true (refused_s _ c.fault.ensures))

pub remove_child-returns : goal.remove_child-returns
remove_child-returns g t c = then_s _ (given_s _ c.in_ok-child.ensures) (remove_level c.args.how _ c.args.left (omega arith) c.remove_node.ensures)
