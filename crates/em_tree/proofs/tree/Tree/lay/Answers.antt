use Rattle.std.proofs.Common.{sym, subst, Bool}
use Rattle.em_tree.specs.Trees.{Table, Changes, IsTree, laid_over}
use Rattle.em_tree.specs.Flags.{IsFlag, IsMark}
use Rattle.em_tree.proofs.Flagging.{IsFlag-lay, IsFlag-wide, settled}
use Rattle.em_tree.proofs.tree.Tree.lay.Goals as goal

pub invariant_of-self : goal.invariant_of-self
invariant_of-self c =
    let old = c.self.inside.nodes in
    let after : Table = laid_over c.args.d.now old in (
      settled IsTree c.lay_on.result c.lay_on.new.nodes old after c.lay_on.ensures.ok c.lay_on.ensures.err
          (subst (λ (t : Table). IsTree (laid_over c.args.d.now t)) (sym c.self.view_is) c.requires.tree) c.self.invariant.0,
      (
        c.lay_on.ensures.index,
        settled (IsFlag c.raised-linked.result) c.lay_on.result c.lay_on.new.nodes old after c.lay_on.ensures.ok c.lay_on.ensures.err
            (subst (λ (b : Bool). IsFlag b after) (sym c.raised-linked.ensures) (IsFlag-lay c.self.inside.linked c.d.inside.linked old c.args.d.now c.self.invariant.1.1
            (subst (λ (d : Changes). IsMark c.d.inside.linked d) c.d.view_is c.d.invariant.1)))
            (subst (λ (b : Bool). IsFlag b old) (sym c.raised-linked.ensures) (IsFlag-wide c.self.inside.linked c.d.inside.linked old c.self.invariant.1.1)),
      ),
    )
