use Rattle.em_grammar.proofs.Giving.{then_on, then_off, then_exit}
use Rattle.em_token.specs.Shell.{shell}
use Rattle.em_token.proofs.Tokens.{off}
use Rattle.em_token.proofs.read.name.Goals as goal

pub returns-in_err-rest-clause-reads : goal.returns-in_err-rest-clause-reads
returns-in_err-rest-clause-reads c = λ left. off left _ _ _ _ _ c.from_residual.ensures (then_exit shell left _ _ _ _ (c.in_err-rest.ensures.reads left))

pub returns-in_err-name-clause-reads : goal.returns-in_err-name-clause-reads
returns-in_err-name-clause-reads c = λ left. off left _ _ _ _ _ c.from_residual-in_err-name.ensures (then_off shell _ (c.in_ok-rest.ensures.reads left) _ (then_exit shell left _ _ _ _ (c.in_err-name.ensures.reads left)))

pub returns-in_err-rest-2-clause-reads : goal.returns-in_err-rest-2-clause-reads
returns-in_err-rest-2-clause-reads c = λ left. off left _ _ _ _ _ c.from_residual-in_err-rest-2.ensures (then_off shell _ (c.in_ok-rest.ensures.reads left) _ (then_off shell _ (c.in_ok-name.ensures.reads left) _ (c.in_err-rest-2.ensures.reads left)))

pub returns-clause-reads : goal.returns-clause-reads
returns-clause-reads c = λ left. then_on shell (c.in_ok-rest.ensures.reads left) (then_on shell (c.in_ok-name.ensures.reads left) (c.in_ok-rest-2.ensures.reads left))
