use Rattle.std.proofs.Common.{◌∙◌, sym, ap, ◌&&◌, ◌||◌, List, ℕ}
use Rattle.std.specs.Ordering.{eq_by_cmp}
use Rattle.em_tree.specs.Index.{has_child}
use Rattle.em_tree.proofs.Maps.{order}
use Rattle.em_tree.proofs.Indexes.{parent_is}
use Rattle.em_chain.proofs.index.list.Goals as goal

pub returns-in_ok-add-clause-ok : goal.returns-in_ok-add-clause-ok
returns-in_ok-add-clause-ok c = λ p k.
    let path = c.args.path.now in
    let up = sym c.requires ∙ c.in-Some.is in
    let old = has_child c.args.children.now p k in
    c.in_ok-add.ensures.ok p k ∙ ap (λ (x : List ℕ). old || (eq_by_cmp order p x && eq_by_cmp order k c.in_ok-copy-2.field-0)) c.in_ok-copy.ensures
    ∙ ap (λ (x : List ℕ). old || (eq_by_cmp order p c.in-Some.parent && eq_by_cmp order k x)) c.in_ok-copy-2.ensures
    ∙ ap (λ b. old || (b && eq_by_cmp order k path)) (sym (parent_is path c.in-Some.parent p up))
