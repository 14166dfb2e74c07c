use Rattle.em_gram.proofs.Holding.{deeper_this, exit_level}
use Rattle.em_gram.proofs.piece.substitution_begin.Goals as goal

pub returns-in_err-rest-clause-err : goal.returns-in_err-rest-clause-err
returns-in_err-rest-clause-err c = exit_level c.args.left _ _ _ _ c.from_residual.ensures c.in_err-rest.ensures.err

pub returns-clause-turns : goal.returns-clause-turns
returns-clause-turns c = λ e. deeper_this c.args.left c.args.tokens.now _ e _ c.in_ok-quoted.ensures.held (c.in_ok-rest.ensures.turns e)
