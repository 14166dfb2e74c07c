use Rattle.std.proofs.Common.{◌≡◌, ◌∙◌, ◌-◌, ◌++◌, ◌∷◌, [], ap, sym, append_assoc, arith}
use Rattle.em_tree.specs.Usages.{no_link, clear_links}
use Rattle.em_tree.proofs.Keeping.{clear-more}
use Rattle.em_tree.proofs.usage.+push_clear.Goals as goal

pub returns : goal.returns
returns t c =
    let old = c.args.entries.now.items in
    let n = c.args.left - 1 in
    let more = clear-more c.args.left c.in-Some.p (omega (arith, c.if-left-eq0.false)) in
    c.in_ok-push.ensures.items
    ∙ ap (λ es. es ++ no_link c.in-Some.p ∷ []) (c.in_ok-push_clear.ensures ∙ ap (λ q. old ++ clear_links n q) c.in_ok-dir_of.ensures)
    ∙ append_assoc old _ (no_link c.in-Some.p ∷ [])
    ∙ ap (λ es. old ++ es) (sym more ∙ ap (clear_links c.args.left) (sym c.in-Some.is))
