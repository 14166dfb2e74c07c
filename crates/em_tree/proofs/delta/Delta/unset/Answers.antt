use Rattle.std.proofs.Common.{sym, subst}
use Rattle.em_tree.specs.Trees.{Changes}
use Rattle.em_tree.specs.Flags.{IsMark}
use Rattle.em_tree.proofs.Flagging.{IsMark-gone}
use Rattle.em_tree.proofs.delta.Delta.unset.Goals as goal

pub invariant_of-self : goal.invariant_of-self
invariant_of-self c = (c.take_out.ensures.index, subst (λ (d : Changes). IsMark c.self.inside.linked d) (sym c.take_out.ensures.nodes) (IsMark-gone c.self.inside.linked c.self.inside.named c.args.place.now.path c.self.invariant.1))
