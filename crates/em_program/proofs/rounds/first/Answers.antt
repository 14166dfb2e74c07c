use Rattle.em_program.proofs.Following.{then, leave}
use Rattle.em_program.proofs.rounds.first.Goals as goal

pub returns-in_err-cwd-clause-told : goal.returns-in_err-cwd-clause-told
returns-in_err-cwd-clause-told g c = leave _ c.from_residual.ensures.1 (rw c.bytes.ensures at c.in_err-cwd.ensures.told)

pub returns-clause-told : goal.returns-clause-told
returns-clause-told g c = then _ (rw c.bytes.ensures at c.in_ok-cwd.ensures.told) c.round.ensures.told
