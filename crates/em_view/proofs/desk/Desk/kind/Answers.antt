use Rattle.em_view.specs.Rows.{kind_at}
use Rattle.em_view.proofs.Performing.{then, leave, finish}
use Rattle.em_view.proofs.desk.Desk.kind.Goals as goal

pub returns-in_err-take-clause-performs : goal.returns-in_err-take-clause-performs
unfolding kind_at
returns-in_err-take-clause-performs g c = leave _ c.from_residual.ensures.1 c.in_err-take.ensures.performs

pub returns-in_err-led-clause-performs : goal.returns-in_err-led-clause-performs
unfolding kind_at
returns-in_err-led-clause-performs g c = then _ c.in_ok-take.ensures.performs (leave _ c.from_residual-in_err-led.ensures.1 c.in_err-led.ensures.performs)

pub returns-in_err-kind-clause-performs : goal.returns-in_err-kind-clause-performs
unfolding kind_at
returns-in_err-kind-clause-performs g c = then _ c.in_ok-take.ensures.performs (then _ c.in_ok-led.ensures.performs (leave _ c.from_residual-in_err-kind.ensures.1 c.in_err-kind.ensures.performs))

pub returns-in_err-take-2-clause-performs : goal.returns-in_err-take-2-clause-performs
unfolding kind_at
returns-in_err-take-2-clause-performs g c = then _ c.in_ok-take.ensures.performs (then _ c.in_ok-led.ensures.performs (then _ c.in_ok-kind.ensures.performs
    (leave _ c.from_residual-in_err-take-2.ensures.1 c.in_err-take-2.ensures.performs)))

pub returns-clause-performs : goal.returns-clause-performs
unfolding kind_at
returns-clause-performs g c = then _ c.in_ok-take.ensures.performs (then _ c.in_ok-led.ensures.performs (then _ c.in_ok-kind.ensures.performs
    (then _ c.in_ok-take-2.ensures.performs finish)))
