use Rattle.em_token.proofs.Tokens.{off}
use Rattle.em_token.proofs.read.skip_command_word.Goals as goal

pub returns-in_err-rest-clause-reads : goal.returns-in_err-rest-clause-reads
returns-in_err-rest-clause-reads c = λ left. off left _ _ _ _ _ c.from_residual.ensures (c.in_err-rest.ensures.reads left)

pub returns-clause-reads : goal.returns-clause-reads
returns-clause-reads c = λ left. c.in_ok-rest.ensures.reads left
