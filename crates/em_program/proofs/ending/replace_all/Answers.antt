use Rattle.em_program.proofs.Following.{then, leave, finish}
use Rattle.em_program.proofs.ending.replace_all.Goals as goal

pub returns-in_err-say-in-None-clause-told : goal.returns-in_err-say-in-None-clause-told
returns-in_err-say-in-None-clause-told g c = rw c.in-None.is (leave _ c.from_residual.ensures.1 (rw c.bytes.ensures at c.in_err-say-in-None.ensures.told))

pub returns-in_ok-say-in-None-clause-told : goal.returns-in_ok-say-in-None-clause-told
returns-in_ok-say-in-None-clause-told g c = rw c.in-None.is (then _ (rw c.bytes.ensures at c.in_ok-say-in-None.ensures.told) (rw (c.status_of.ensures, c.items.ensures, c.items-earlier.ensures) finish))

pub returns-in_err-verdict-in-Some-clause-told : goal.returns-in_err-verdict-in-Some-clause-told
returns-in_err-verdict-in-Some-clause-told g c = rw c.in-Some.is (leave _ c.from_residual-in_err-verdict-in-Some.ensures.1 (rw (c.bytes-in-Some.ensures, c.items-earlier.ensures) at c.in_err-verdict-in-Some.ensures.told))

pub returns-in_err-keep_history-in-Some-clause-told : goal.returns-in_err-keep_history-in-Some-clause-told
returns-in_err-keep_history-in-Some-clause-told g c =
    rw c.in-Some.is
    (then _ (rw (c.bytes-in-Some.ensures, c.items-earlier.ensures) at c.in_ok-verdict-in-Some.ensures.told)
    (leave _ c.from_residual-in_err-keep_history-in-Some.ensures.1 c.in_err-keep_history-in-Some.ensures.told))

pub returns-in_err-keep_report-in-Some-clause-told : goal.returns-in_err-keep_report-in-Some-clause-told
returns-in_err-keep_report-in-Some-clause-told g c =
    rw c.in-Some.is
    (then _ (rw (c.bytes-in-Some.ensures, c.items-earlier.ensures) at c.in_ok-verdict-in-Some.ensures.told)
    (then _ c.in_ok-keep_history-in-Some.ensures.told
    (leave _ c.from_residual-in_err-keep_report-in-Some.ensures.1 c.in_err-keep_report-in-Some.ensures.told)))

pub returns-in_ok-keep_report-in-Some-clause-told : goal.returns-in_ok-keep_report-in-Some-clause-told
returns-in_ok-keep_report-in-Some-clause-told g c =
    rw c.in-Some.is
    (then _ (rw (c.bytes-in-Some.ensures, c.items-earlier.ensures) at c.in_ok-verdict-in-Some.ensures.told)
    (then _ c.in_ok-keep_history-in-Some.ensures.told
    (then _ c.in_ok-keep_report-in-Some.ensures.told finish)))
