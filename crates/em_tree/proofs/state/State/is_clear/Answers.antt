use Rattle.std.proofs.Common.{◌∙◌, ap, sym, subst, refl, arith}
use Rattle.std.specs.Prelude.{option_copied}
use Rattle.em_tree.specs.Answers.{Agrees}
use Rattle.em_tree.specs.Usages.{clear_links}
use Rattle.em_tree.proofs.Keeping.{clear-none, clear-next, clear-not}
use Rattle.em_tree.proofs.state.State.is_clear.Goals as goal

pub returns-in_default : goal.returns-in_default
returns-in_default c =
    let none = ap (clear_links c.loop-left.left) c.in_default.is ∙ clear-none c.loop-left.left in
    (λ t. c.loop-left.invariant.1 (subst (Agrees c.args.self.now) (sym none) tt), λ a. refl)

pub returns-in-Some-link : goal.returns-in-Some-link
returns-in-Some-link c =
    let s = c.args.self.now in
    let text = sym c.link.ensures.link ∙ ap option_copied c.in-Some-link.is in
    (λ t. absurd (cc), λ a. absurd (clear-not s c.loop-left.left c.in-Some.p _ (omega (arith, c.loop-left-test.true)) text (subst (Agrees s) (ap (clear_links c.loop-left.left) c.in-Some.is) (c.loop-left.invariant.0 a))))

pub loop-left-preserved-in_ok-at-in-None : goal.loop-left-preserved-in_ok-at-in-None
loop-left-preserved-in_ok-at-in-None c =
    clear-next c.args.self.now c.loop-left.left c.loop-left.at c.in_ok-at-in-None.at c.in-Some.p _ (omega (arith, c.loop-left-test.true)) c.in-Some.is (sym c.link.ensures.link ∙ ap option_copied c.in-None.is) c.in_ok-at-in-None.ensures c.loop-left.invariant

pub loop-left-preserved : goal.loop-left-preserved
loop-left-preserved c =
    clear-next c.args.self.now c.loop-left.left c.loop-left.at c.in_ok-at-in-None.at c.in-Some.p _ (omega (arith, c.loop-left-test.true)) c.in-Some.is (sym c.link.ensures.link ∙ ap option_copied c.in-None.is) c.in_ok-at-in-None.ensures c.loop-left.invariant
