use Rattle.std.proofs.Common.{◌∙◌, sym, ap, subst, None}
use Rattle.std.specs.FinMap.{insert}
use Rattle.em_tree.specs.Trees.{Changes, IsTree, laid_over}
use Rattle.em_tree.proofs.Lawful.{IsTree-remove, laid_one, bare_file}
use Rattle.em_image_tests.proofs.tree.take_out.Goals as goal

pub lay-requires : goal.lay-requires
lay-requires c =
    let t = c.args.tree.now in
    let p = c.args.p in
    let up = sym c.in-Ok-Some.ensures.ok ∙ c.in-Ok-Some.field-0-is in
    let is = ap (λ (d : Changes). laid_over d t) (c.in_ok-set-in-File.ensures.ok ∙ ap (λ (d : Changes). insert d p None) c.new-d.ensures) ∙ laid_one t p None in
    record { tree = subst IsTree (sym is) (IsTree-remove t p c.in-Ok-Some.field-0-0 c.kind.ensures.tree up (bare_file t p c.kind.ensures.tree c.in-File.ensures.kind)) }
