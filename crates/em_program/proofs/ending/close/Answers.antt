use Rattle.em_program.proofs.Following.{then, leave, finish}
use Rattle.em_program.proofs.Ends.{failed-so}
use Rattle.em_program.proofs.ending.close.Goals as goal

pub returns-in_err-say-in-Ok-clause-told : goal.returns-in_err-say-in-Ok-clause-told
returns-in_err-say-in-Ok-clause-told g c =
    rw c.in-Ok.ensures.exact (leave _ c.from_residual.ensures.1 (rw c.bytes.ensures at c.in_err-say-in-Ok.ensures.told))

pub returns-in_err-keep-in-Ok-clause-told : goal.returns-in_err-keep-in-Ok-clause-told
returns-in_err-keep-in-Ok-clause-told g c =
    rw c.in-Ok.ensures.exact
    (then _ (rw c.bytes.ensures at c.in_ok-say-in-Ok.ensures.told)
    (leave _ c.from_residual-in_err-keep-in-Ok.ensures.1 (rw c.bytes-in-Ok.ensures at c.in_err-keep-in-Ok.ensures.told)))

pub returns-in_ok-keep-in-Ok-clause-told : goal.returns-in_ok-keep-in-Ok-clause-told
returns-in_ok-keep-in-Ok-clause-told g c =
    rw c.in-Ok.ensures.exact
    (then _ (rw c.bytes.ensures at c.in_ok-say-in-Ok.ensures.told)
    (then _ (rw c.bytes-in-Ok.ensures at c.in_ok-keep-in-Ok.ensures.told) (rw (c.status_of.ensures, c.items-outcomes.ensures) finish)))

pub returns-in_err-say-in_default-clause-told : goal.returns-in_err-say-in_default-clause-told
returns-in_err-say-in_default-clause-told g c =
    rw (failed-so c.in-Err.no _ c.in_default.not-NoMemory c.in-Err.ensures.exact)
    (leave _ c.from_residual-in_err-say-in_default.ensures.1 (rw (c.bytes-in_default.ensures, c.in_ok-last-in_default.ensures) at c.in_err-say-in_default.ensures.told))

pub returns-in_ok-say-in_default-clause-told : goal.returns-in_ok-say-in_default-clause-told
returns-in_ok-say-in_default-clause-told g c =
    rw (failed-so c.in-Err.no _ c.in_default.not-NoMemory c.in-Err.ensures.exact)
    (then _ (rw (c.bytes-in_default.ensures, c.in_ok-last-in_default.ensures) at c.in_ok-say-in_default.ensures.told) (rw (c.status_of-in_default.ensures, c.items-outcomes.ensures) finish))
