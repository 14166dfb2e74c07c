use Rattle.std.proofs.Common.{◌∙◌, sym, ap, subst, Bool, ◌||◌}
use Rattle.std.specs.FinMap.{insert}
use Rattle.em_tree.specs.Trees.{Changes}
use Rattle.em_tree.specs.Flags.{IsMark}
use Rattle.em_tree.proofs.Flagging.{IsMark-put, IsMark-wide, settled}
use Rattle.em_tree.proofs.delta.Delta.set.Goals as goal

pub invariant_of-self : goal.invariant_of-self
invariant_of-self c =
    let old = c.self.inside.named in
    let put : Changes = insert old c.args.p c.args.n in
    let up = c.raised-linked.ensures ∙ ap (λ b. c.self.inside.linked || b) c.is_link.ensures in (
      c.put.ensures.index,
      settled (IsMark c.raised-linked.result) c.put.result c.put.new.nodes old put c.put.ensures.ok c.put.ensures.err
          (subst (λ (b : Bool). IsMark b put) (sym up) (IsMark-put c.self.inside.linked old c.args.p c.args.n c.self.invariant.1))
          (subst (λ (b : Bool). IsMark b old) (sym c.raised-linked.ensures) (IsMark-wide c.self.inside.linked c.is_link.result old c.self.invariant.1)),
    )
