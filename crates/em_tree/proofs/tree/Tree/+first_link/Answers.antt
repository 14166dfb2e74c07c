use Rattle.std.proofs.Common.{arith, sym, ap, ◌∙◌, ◌≡◌, Some}
use Rattle.em_tree.specs.Resolving.{links_in, met_by}
use Rattle.em_tree.proofs.Resolving.{found_above, found_here}
use Rattle.em_tree.proofs.tree.Tree.+first_link.Goals as goal

pub returns-then-is_some : goal.returns-then-is_some
returns-then-is_some t c = found_above (links_in c.args.self.now) c.args.left c.args.p.now c.in-Some.dir c.in_ok-above.above (omega arith) (sym c.in_ok-dir.ensures ∙ c.in-Some.is)
    c.in_ok-above.ensures (sym c.is_some.ensures ∙ c.if-is_some.true)

pub returns-in_ok-copy-in-Some-link-2 : goal.returns-in_ok-copy-in-Some-link-2
returns-in_ok-copy-in-Some-link-2 t c =
    let dir = c.in-Some.dir in
    let e = found_here (links_in c.args.self.now) c.args.left c.args.p.now dir c.in_ok-above.above (omega arith) (sym c.in_ok-dir.ensures ∙ c.in-Some.is)
    c.in_ok-above.ensures (sym c.is_some.ensures ∙ c.if-is_some.false) in
    let built : Some (record { dir = c.dir.inside.spelled; link = c.in_ok-copy-in-Some-link.field-0; text = c.in_ok-copy-in-Some-link-2.field-0 }) ≡ met_by dir c.args.p.now (Some c.in-Some-link.text.now)
    = λ i. Some (record { dir = c.dir.view_is i; link = c.in_ok-copy-in-Some-link.ensures i; text = c.in_ok-copy-in-Some-link-2.ensures i }) in
    built ∙ ap (met_by dir c.args.p.now) c.in-Some-link.ensures.link ∙ sym e
