use Rattle.std.proofs.Common.{◌∙◌, sym, ap, ◌&&◌, not}
use Rattle.std.specs.Ordering.{eq_by_cmp}
use Rattle.em_tree.specs.Index.{has_child}
use Rattle.em_tree.proofs.Maps.{order}
use Rattle.em_tree.proofs.Indexes.{parent_is}
use Rattle.em_chain.proofs.index.unlist.Goals as goal

pub returns-in-Some : goal.returns-in-Some
returns-in-Some c = λ p k.
    let path = c.args.path.now in
    let up = sym c.requires ∙ c.in-Some.is in
    c.take.ensures p k ∙ ap (λ b. has_child c.args.children.now p k && not (b && eq_by_cmp order k path)) (sym (parent_is path c.in-Some.parent p up))
