use Rattle.em_program.proofs.Rounding.{broke, ends, ends_early, stops, goes_later}
use Rattle.em_program.proofs.build.+builds.Goals as goal

pub returns-in_err-done-clause-told : goal.returns-in_err-done-clause-told
returns-in_err-done-clause-told g t c = broke c.args.step _ _ c.from_residual.ensures.1 c.in_err-done.ensures.ran

pub returns-in-None-clause-told : goal.returns-in-None-clause-told
returns-in-None-clause-told g t c =
    ends c.args.step c.requires.ready c.in_ok-done.ensures.ran c.ended.result c.in-None.is
    (rw (c.has_ended-early.ensures, c.items.ensures) at c.ended.ensures.told) c.ended.ensures.notes

pub returns-then-early-clause-told : goal.returns-then-early-clause-told
returns-then-early-clause-told g t c =
    ends_early c.args.step c.requires.ready c.in_ok-done.ensures.ran c.in-Some.remaking c.in-Some.is _
    (rw (c.has_ended-early.ensures, c.items.ensures) at c.if-early.true)
    (rw (c.has_ended-early.ensures, c.items.ensures) at c.ended-then-early.ensures.told) c.ended-then-early.ensures.notes

pub returns-in_err-step-in-Some-clause-told : goal.returns-in_err-step-in-Some-clause-told
returns-in_err-step-in-Some-clause-told g t c =
    stops c.args.step c.requires.ready c.in_ok-done.ensures.ran c.in-Some.remaking c.in-Some.is
    (rw (c.has_ended-early.ensures, c.items.ensures) at c.if-early.false)
    _ _ c.from_residual-in_err-step-in-Some.ensures.1 c.in_err-step-in-Some.ensures.told

pub returns-in_ok-step-in-Some-clause-told : goal.returns-in_ok-step-in-Some-clause-told
returns-in_ok-step-in-Some-clause-told g t c =
    goes_later c.args.step c.requires.ready c.in_ok-done.ensures.ran c.in-Some.remaking c.in-Some.is
    (rw (c.has_ended-early.ensures, c.items.ensures) at c.if-early.false)
    _ _ _ _ _ c.in_ok-step-in-Some.ensures.is c.in_ok-step-in-Some.ensures.told c.run_from.ensures.told
