use Rattle.std.proofs.Common.{◌∙◌, sym}
use Rattle.std.specs.FinMap.{get}
use Rattle.em_tree.proofs.Indexes.{IsIndex-put}
use Rattle.em_tree.proofs.Laying.{present}
use Rattle.em_tree.proofs.index.put.Goals as goal

pub returns-then-is_some-clause-index : goal.returns-then-is_some-clause-index
returns-then-is_some-clause-index g c =
    let there = present c.get.result (get c.args.nodes.now c.args.p) c.get.ensures (sym c.is_some.ensures ∙ c.if-is_some.true) in
    rw c.in_ok-insert.ensures.ok (IsIndex-put c.args.children.now c.args.nodes.now c.args.p c.args.n c.requires.index there)
