use Rattle.em_program.proofs.Following.{then, leave, finish}
use Rattle.em_program.proofs.explain.report_in.Goals as goal

pub returns-in_err-bytes-clause-told : goal.returns-in_err-bytes-clause-told
returns-in_err-bytes-clause-told g c = leave _ c.from_residual.ensures.1 c.in_err-bytes.ensures.told

pub returns-in-Some-clause-told : goal.returns-in-Some-clause-told
returns-in-Some-clause-told g c = then _ c.in_ok-bytes.ensures.told (rw c.in-Some.is finish)

pub returns-in-None-clause-told : goal.returns-in-None-clause-told
returns-in-None-clause-told g c = then _ c.in_ok-bytes.ensures.told (rw c.in-None.is c.stop.ensures.told)
