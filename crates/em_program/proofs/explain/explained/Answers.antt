use Rattle.em_program.proofs.Following.{then, leave, finish}
use Rattle.em_program.proofs.explain.explained.Goals as goal

pub returns-in-None-clause-told : goal.returns-in-None-clause-told
returns-in-None-clause-told g c = rw c.in-None.is finish

pub returns-in_err-taken-in-Some-clause-told : goal.returns-in_err-taken-in-Some-clause-told
returns-in_err-taken-in-Some-clause-told g c = rw c.in-Some.is (leave _ c.from_residual.ensures.1 (rw c.bytes.ensures at c.in_err-taken-in-Some.ensures.told))

pub returns-in_err-report-in-Some-clause-told : goal.returns-in_err-report-in-Some-clause-told
returns-in_err-report-in-Some-clause-told g c =
    rw c.in-Some.is
    (then _ (rw c.bytes.ensures at c.in_ok-taken-in-Some.ensures.told)
    (leave _ c.from_residual-in_err-report-in-Some.ensures.1 (rw c.bytes-in-Some.ensures at c.in_err-report-in-Some.ensures.told)))

pub returns-in_ok-report-in-Some-clause-told : goal.returns-in_ok-report-in-Some-clause-told
returns-in_ok-report-in-Some-clause-told g c =
    rw c.in-Some.is
    (then _ (rw c.bytes.ensures at c.in_ok-taken-in-Some.ensures.told)
    (then _ (rw c.bytes-in-Some.ensures at c.in_ok-report-in-Some.ensures.told) c.told_of.ensures.told))
