use Rattle.em_program.proofs.Following.{took, not_taken}
use Rattle.em_program.proofs.say.take.Goals as goal

pub returns-in_err-bytes-clause-told : goal.returns-in_err-bytes-clause-told
returns-in_err-bytes-clause-told g c = not_taken _ _ c.from_residual.ensures.1 c.in_err-bytes.ensures.told

pub returns-in-Some-clause-told : goal.returns-in-Some-clause-told
returns-in-Some-clause-told g c = rw c.from_vec.ensures (took _ (rw c.in-Some.is at c.in_ok-bytes.ensures.told))

pub returns-in-None-clause-told : goal.returns-in-None-clause-told
returns-in-None-clause-told g c = took _ (rw c.in-None.is at c.in_ok-bytes.ensures.told)
