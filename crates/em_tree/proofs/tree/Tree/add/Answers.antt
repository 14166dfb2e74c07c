use Rattle.std.proofs.Common.{◌∙◌, sym, ap, subst, Bool, ◌||◌}
use Rattle.std.specs.FinMap.{insert}
use Rattle.em_tree.specs.Trees.{Table, IsTree}
use Rattle.em_tree.specs.Flags.{IsFlag}
use Rattle.em_tree.proofs.Flagging.{IsFlag-put, IsFlag-wide, settled}
use Rattle.em_tree.proofs.tree.Tree.add.Goals as goal

pub invariant_of-self : goal.invariant_of-self
invariant_of-self c =
    let old = c.self.inside.nodes in
    let put : Table = insert old c.args.p c.args.n in
    let up = c.raised-linked.ensures ∙ ap (λ b. c.self.inside.linked || b) c.is_link.ensures in (
      settled IsTree c.put_absent.result c.put_absent.new.nodes old put c.put_absent.ensures.ok c.put_absent.ensures.err
          (subst (λ (t : Table). IsTree (insert t c.args.p c.args.n)) (sym c.self.view_is) c.requires.tree) c.self.invariant.0,
      (
        c.put_absent.ensures.index,
        settled (IsFlag c.raised-linked.result) c.put_absent.result c.put_absent.new.nodes old put c.put_absent.ensures.ok c.put_absent.ensures.err
            (subst (λ (b : Bool). IsFlag b put) (sym up) (IsFlag-put c.self.inside.linked old c.args.p c.args.n c.self.invariant.1.1))
            (subst (λ (b : Bool). IsFlag b old) (sym c.raised-linked.ensures) (IsFlag-wide c.self.inside.linked c.is_link.result old c.self.invariant.1.1)),
      ),
    )
