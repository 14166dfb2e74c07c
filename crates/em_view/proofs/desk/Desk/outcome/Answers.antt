use Rattle.em_view.specs.Rows.{outcome}
use Rattle.em_view.proofs.Performing.{then, leave, finish}
use Rattle.em_view.proofs.desk.Desk.outcome.Goals as goal

pub returns-in_err-take-clause-performs : goal.returns-in_err-take-clause-performs
unfolding outcome
returns-in_err-take-clause-performs g c = leave _ c.from_residual.ensures.1 c.in_err-take.ensures.performs

pub returns-in_err-answer-clause-performs : goal.returns-in_err-answer-clause-performs
unfolding outcome
returns-in_err-answer-clause-performs g c = then _ c.in_ok-take.ensures.performs (leave _ c.from_residual-in_err-answer.ensures.1 c.in_err-answer.ensures.performs)

pub returns-clause-performs : goal.returns-clause-performs
unfolding outcome
returns-clause-performs g c = rw c.outcome_in.ensures (then _ c.in_ok-take.ensures.performs (then _ c.in_ok-answer.ensures.performs finish))
