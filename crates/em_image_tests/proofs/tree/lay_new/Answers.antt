use Rattle.std.proofs.Common.{◌≡◌, None, Some, sym, ap, subst, ◌∙◌}
use Rattle.std.specs.FinMap.{insert}
use Rattle.em_tree.specs.declared.node.Kind.TheVariants as kind
use Rattle.em_tree.specs.Trees.{Changes, IsTree, laid_over}
use Rattle.em_tree.proofs.Lawful.{IsTree-put, laid_one}
use Rattle.em_image_tests.proofs.tree.lay_new.Goals as goal

pub lay-requires : goal.lay-requires
lay-requires c =
    let t = c.args.tree.now in
    let p = c.args.p in
    let up = sym c.in-Ok-Some.ensures.ok ∙ c.in-Ok-Some.field-0-is in
    let is = ap (λ (d : Changes). laid_over d t) (c.in_ok-set-in-Dir-Absent.ensures.ok ∙ ap (λ (d : Changes). insert d p (Some c.args.n)) c.new-d.ensures) ∙ laid_one t p (Some c.args.n) in
    let put = IsTree-put t p c.in-Ok-Some.above c.args.n c.kind.ensures.tree c.text-text.ensures.path up (sym c.in-Dir-Absent.ensures.kind)
    (λ d. let z : kind.Absent ≡ kind.Dir = c.in-Dir-Absent.ensures'.kind ∙ d in cc) in
    record { tree = subst IsTree (sym is) put }
