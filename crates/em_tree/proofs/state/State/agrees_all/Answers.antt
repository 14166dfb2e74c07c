use Rattle.std.proofs.Common.{◌∙◌, ap, sym, subst, take}
use Rattle.std.proofs.lemmas.List.{take_more}
use Rattle.em_tree.specs.Answers.{Agrees}
use Rattle.em_tree.specs.Usages.{flat, entries_of}
use Rattle.em_tree.proofs.Keeping.{agrees-look, agrees-more}
use Rattle.em_tree.proofs.state.State.agrees_all.Goals as goal

pub returns-then-not-branch : goal.returns-then-not-branch
returns-then-not-branch c =
    let s = c.args.self.now in
    let looks = c.deref-look-items.result.now in
    let t = c.if-not-branch.true in
    let all = ap flat c.deref-look-items.ensures.value ∙ c.usage.view_is in (
      λ f. absurd (cc),
      λ a.
          let b = agrees-look s looks c.loop-look.look-index c.look-item.result c.loop-look-test.true (subst (Agrees s) (sym all) a) in
          let d = c.in_ok-agrees_with.ensures.1 (subst (λ l. Agrees s (entries_of l)) (sym c.look-item.is) b) in
          absurd (cc),
    )

pub loop-look-preserved : goal.loop-look-preserved
loop-look-preserved c =
    let s = c.args.self.now in
    let looks = c.deref-look-items.result.now in
    subst (λ ls. Agrees s (flat ls)) (sym (take_more looks c.loop-look.look-index c.look-item.result c.loop-look-test.true))
    (agrees-more s (take c.loop-look.look-index looks) _ c.loop-look.invariant
    (subst (λ l. Agrees s (entries_of l)) c.look-item.is (c.in_ok-agrees_with.ensures.0 c.if-not-branch.false)))
