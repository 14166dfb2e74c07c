use Rattle.em_tree.specs.declared.node.Node.{Node}
use Rattle.std.proofs.Common.{Option}
use Rattle.em_tree.proofs.Indexes.{IsIndex-empty}
use Rattle.em_tree.proofs.Flagging.{IsMark-empty}
use Rattle.em_tree.proofs.delta.Delta.new.Goals as goal

pub invariant_of-result : goal.invariant_of-result
invariant_of-result c = rw c.new.ensures (IsIndex-empty (Option Node) c.new-2.result c.new-2.ensures.empty, IsMark-empty)
