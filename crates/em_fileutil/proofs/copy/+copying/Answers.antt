use Rattle.std.proofs.Common.{◌∙◌, sym, arith}
use Rattle.em_base.proofs.Lemmas.{left_at, none_at}
use Rattle.em_view.proofs.Doing.{then_s, leave_s, refused_s}
use Rattle.em_utility.proofs.Trying.{named_s}
use Rattle.em_fileutil.proofs.Spotting.{there_s, given_s, ending_ok, ending_err, each_stop, each_more, each_end, yes_s, no_s}
use Rattle.em_fileutil.proofs.Levels.{copy_level}
use Rattle.em_fileutil.specs.Copying.{copy_child, copy_tree, recurs, copy_node, copy_linked, copy_beneath}
use Rattle.em_fileutil.proofs.copy.+copying.Goals as goal

pub copy_linked-returns-in_err-text : goal.copy_linked-returns-in_err-text
unfolding copy_linked
copy_linked-returns-in_err-text g t c = leave_s _ c.from_residual.ensures.1 (named_s _ c.in_err-text.ensures c.link.ensures.performs)

pub copy_linked-returns-in-Some : goal.copy_linked-returns-in-Some
unfolding copy_linked
copy_linked-returns-in-Some g t c = then_s _ (named_s _ c.in_ok-text.ensures c.link.ensures.performs) (rw c.in-Some.is (c.copy_link.ensures c.args.done.now))

pub copy_linked-returns-in-None : goal.copy_linked-returns-in-None
unfolding copy_linked
copy_linked-returns-in-None g t c = then_s _ (named_s _ c.in_ok-text.ensures c.link.ensures.performs) (rw c.in-None.is c.copy_node.ensures)

pub copy_node-returns-in_err-tried : goal.copy_node-returns-in_err-tried
unfolding copy_node
copy_node-returns-in_err-tried g t c = leave_s _ c.from_residual.ensures.1 (named_s _ c.in_err-tried.ensures c.kind.ensures.performs)

pub copy_node-returns-in-Absent : goal.copy_node-returns-in-Absent
unfolding copy_node
copy_node-returns-in-Absent g t c = then_s _ (named_s _ c.in_ok-tried.ensures c.kind.ensures.performs) (rw c.in-Absent.is (refused_s _ c.told.ensures))

pub copy_node-returns-in-Link : goal.copy_node-returns-in-Link
unfolding copy_node
copy_node-returns-in-Link g t c = then_s _ (named_s _ c.in_ok-tried.ensures c.kind.ensures.performs) (rw c.in-Link.is (refused_s _ c.told-in-Link.ensures))

pub copy_node-returns-in-File : goal.copy_node-returns-in-File
unfolding copy_node
copy_node-returns-in-File g t c = then_s _ (named_s _ c.in_ok-tried.ensures c.kind.ensures.performs) (rw c.in-File.is (c.copy_as_file.ensures c.args.done.now))

pub copy_node-returns-then-recurs : goal.copy_node-returns-then-recurs
unfolding copy_node
copy_node-returns-then-recurs g t c = then_s _ (named_s _ c.in_ok-tried.ensures c.kind.ensures.performs) (rw c.in-Dir.is (yes_s (recurs c.args.manner) _ (sym c.recurs.ensures ∙ c.if-recurs.true) c.copy_tree.ensures))

pub copy_node-returns-else-recurs : goal.copy_node-returns-else-recurs
unfolding copy_node
copy_node-returns-else-recurs g t c = then_s _ (named_s _ c.in_ok-tried.ensures c.kind.ensures.performs) (rw c.in-Dir.is (no_s (recurs c.args.manner) _ (sym c.recurs.ensures ∙ c.if-recurs.false) (refused_s _ c.told-else-recurs.ensures)))

pub copy_tree-returns-in_err-make_missing : goal.copy_tree-returns-in_err-make_missing
unfolding copy_tree
copy_tree-returns-in_err-make_missing g t c = leave_s _ c.from_residual.ensures.1 (rw c.bytes.ensures at (c.in_err-make_missing.ensures c.args.done.now))

pub copy_tree-returns-in_err-inside : goal.copy_tree-returns-in_err-inside
unfolding copy_tree
copy_tree-returns-in_err-inside g t c = then_s _ (rw c.bytes.ensures at (c.in_ok-make_missing.ensures c.args.done.now)) (leave_s _ c.from_residual-in_err-inside.ensures.1 (there_s _ c.in_err-inside.ensures c.names.ensures.performs))

pub copy_tree-returns-in_err-copy_each : goal.copy_tree-returns-in_err-copy_each
unfolding copy_tree
copy_tree-returns-in_err-copy_each g t c = then_s _ (rw c.bytes.ensures at (c.in_ok-make_missing.ensures c.args.done.now)) (then_s _ (there_s _ c.in_ok-inside.ensures c.names.ensures.performs) (leave_s _ c.from_residual-in_err-copy_each.ensures.1 (ending_err (rw c.names-2.ensures.names at c.in_err-copy_each.ensures))))

pub copy_tree-returns : goal.copy_tree-returns
unfolding copy_tree
copy_tree-returns g t c = then_s _ (rw c.bytes.ensures at (c.in_ok-make_missing.ensures c.args.done.now)) (then_s _ (there_s _ c.in_ok-inside.ensures c.names.ensures.performs) (then_s _ (ending_ok (rw c.names-2.ensures.names at c.in_ok-copy_each.ensures)) (c.leave_source.ensures c.copy_each.new.done)))

pub copy_each-loop-name-init : goal.copy_each-loop-name-init
copy_each-loop-name-init g t c = λ new u r p. p

pub copy_each-returns-in_err-settle : goal.copy_each-returns-in_err-settle
copy_each-returns-in_err-settle g t c = each_stop c.args.utility.now (copy_child (copy_beneath c.args.utility.now c.args.manner c.args.left) c.args.source.now c.args.target.now) c.args.names.now c.loop-name.name-index c.loop-name.invariant c.name-item.result (left_at c.args.names.now c.loop-name.name-index c.name-item.result c.loop-name-test.true c.name-item.is) c.from_residual.ensures.1 c.in_err-settle.ensures (rw c.bytes-name.ensures at c.copy_child-given.ensures)

pub copy_each-loop-name-preserved : goal.copy_each-loop-name-preserved
copy_each-loop-name-preserved g t c = each_more c.args.utility.now (copy_child (copy_beneath c.args.utility.now c.args.manner c.args.left) c.args.source.now c.args.target.now) c.args.names.now c.loop-name.name-index c.loop-name.invariant c.name-item.result (left_at c.args.names.now c.loop-name.name-index c.name-item.result c.loop-name-test.true c.name-item.is) c.in_ok-settle.ensures (rw c.bytes-name.ensures at c.copy_child-given.ensures)

pub copy_each-returns : goal.copy_each-returns
copy_each-returns g t c = each_end c.args.utility.now (copy_child (copy_beneath c.args.utility.now c.args.manner c.args.left) c.args.source.now c.args.target.now) c.args.names.now c.loop-name.name-index c.loop-name.invariant (none_at c.args.names.now c.loop-name.name-index c.loop-name-test.false)

pub copy_child-returns-in_err-from : goal.copy_child-returns-in_err-from
copy_child-returns-in_err-from g t c = leave_s _ c.from_residual.ensures.1 (given_s _ c.in_err-from.ensures)

pub copy_child-returns-in_err-to : goal.copy_child-returns-in_err-to
copy_child-returns-in_err-to g t c = then_s _ (given_s _ c.in_ok-from.ensures) (leave_s _ c.from_residual-in_err-to.ensures.1 (given_s _ c.in_err-to.ensures))

pub copy_child-returns-then-left-eq0 : goal.copy_child-returns-then-left-eq0
copy_child-returns-then-left-eq0 g t c = then_s _ (given_s _ c.in_ok-from.ensures) (then_s _ (given_s _ c.in_ok-to.ensures) (rw c.if-left-eq0.true (refused_s _ c.fault.ensures)))

pub copy_child-returns : goal.copy_child-returns
copy_child-returns g t c = then_s _ (given_s _ c.in_ok-from.ensures) (then_s _ (given_s _ c.in_ok-to.ensures) (copy_level c.args.utility.now c.args.manner _ _ c.args.left (omega arith) c.copy_linked.ensures))
