use Rattle.std.proofs.Common.{arith, refl, sym, ◌∙◌, ◌≡◌, Some}
use Rattle.em_tree.specs.Resolving.{met_by}
use Rattle.em_view.proofs.Performing.{then, leave, finish, ran_out}
use Rattle.em_view.proofs.Levels.{passed_level, kept, no_met}
use Rattle.em_view.proofs.desk.Desk.+passed.Goals as goal

pub returns-then-left-eq0-clause-performs : goal.returns-then-left-eq0-clause-performs
returns-then-left-eq0-clause-performs g t c = rw c.if-left-eq0.true finish

pub returns-in_err-dir-clause-performs : goal.returns-in_err-dir-clause-performs
returns-in_err-dir-clause-performs g t c = ran_out _ refl c.from_residual.ensures.1

pub returns-in_default-clause-performs : goal.returns-in_default-clause-performs
returns-in_default-clause-performs g t c = passed_level c.args.p.now c.args.left (omega arith) (rw (← c.in_ok-dir.ensures, c.in_default.is) finish)

pub returns-in_err-above-clause-performs : goal.returns-in_err-above-clause-performs
returns-in_err-above-clause-performs g t c = passed_level c.args.p.now c.args.left (omega arith) (rw (← c.in_ok-dir.ensures, c.in-Some.is) (leave _ c.from_residual-in_err-above.ensures.1 c.in_err-above.ensures.performs))

pub returns-then-is_some-clause-performs : goal.returns-then-is_some-clause-performs
returns-then-is_some-clause-performs g t c = passed_level c.args.p.now c.args.left (omega arith) (rw (← c.in_ok-dir.ensures, c.in-Some.is) (then _ c.in_ok-above.ensures.performs
    (kept c.in-Some.dir c.args.p.now c.in_ok-above.above (sym c.is_some.ensures ∙ c.if-is_some.true))))

pub returns-in_err-text-clause-performs : goal.returns-in_err-text-clause-performs
returns-in_err-text-clause-performs g t c = passed_level c.args.p.now c.args.left (omega arith) (rw (← c.in_ok-dir.ensures, c.in-Some.is) (then _ c.in_ok-above.ensures.performs
    (rw (no_met c.in_ok-above.above (sym c.is_some.ensures ∙ c.if-is_some.false)) (leave _ c.from_residual-in_err-text.ensures.1 c.in_err-text.ensures.performs))))

pub returns-in_err-copy-in-Some-2-clause-performs : goal.returns-in_err-copy-in-Some-2-clause-performs
returns-in_err-copy-in-Some-2-clause-performs g t c = passed_level c.args.p.now c.args.left (omega arith) (rw (← c.in_ok-dir.ensures, c.in-Some.is) (then _ c.in_ok-above.ensures.performs
    (rw (no_met c.in_ok-above.above (sym c.is_some.ensures ∙ c.if-is_some.false)) (then _ c.in_ok-text.ensures.performs (ran_out _ refl c.from_residual-in_err-copy-in-Some-2.ensures.1)))))

pub returns-in_ok-copy-in-Some-2-clause-performs : goal.returns-in_ok-copy-in-Some-2-clause-performs
returns-in_ok-copy-in-Some-2-clause-performs g t c =
    let built : Some (record { dir = c.dir.inside.spelled; link = c.in_ok-copy-in-Some-2.field-0; text = c.in-Some-2.text }) ≡ met_by c.in-Some.dir c.args.p.now (Some c.in-Some-2.text)
    = λ i. Some (record { dir = c.dir.view_is i; link = c.in_ok-copy-in-Some-2.ensures i; text = c.in-Some-2.text }) in
    passed_level {new = c.link_below.new.self} c.args.p.now c.args.left (omega arith) (rw (← c.in_ok-dir.ensures, c.in-Some.is) (then _ c.in_ok-above.ensures.performs
    (rw (no_met c.in_ok-above.above (sym c.is_some.ensures ∙ c.if-is_some.false)) (then _ c.in_ok-text.ensures.performs (rw (c.in-Some-2.is, built) finish)))))

pub returns-in-None-clause-performs : goal.returns-in-None-clause-performs
returns-in-None-clause-performs g t c = passed_level c.args.p.now c.args.left (omega arith) (rw (← c.in_ok-dir.ensures, c.in-Some.is) (then _ c.in_ok-above.ensures.performs
    (rw (no_met c.in_ok-above.above (sym c.is_some.ensures ∙ c.if-is_some.false)) (then _ c.in_ok-text.ensures.performs (rw c.in-None.is finish)))))
