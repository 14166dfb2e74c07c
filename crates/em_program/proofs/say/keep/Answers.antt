use Rattle.em_program.proofs.Following.{kept, not_kept}
use Rattle.em_program.proofs.say.keep.Goals as goal

pub returns-in_err-replace-clause-told : goal.returns-in_err-replace-clause-told
returns-in_err-replace-clause-told g c = not_kept _ _ _ c.from_residual.ensures.1 c.in_err-replace.ensures.told

pub returns-clause-told : goal.returns-clause-told
returns-clause-told g c = kept _ _ c.in_ok-replace.ensures.told
