use Rattle.em_view.specs.Rows.{names}
use Rattle.em_view.proofs.Performing.{then, leave, finish}
use Rattle.em_view.proofs.Primitives.{spend_alike, capped_more}
use Rattle.em_view.proofs.desk.Desk.names.Goals as goal

pub returns-in_err-take-clause-performs : goal.returns-in_err-take-clause-performs
unfolding names
returns-in_err-take-clause-performs g c = leave _ c.from_residual.ensures.1 c.in_err-take.ensures.performs

pub returns-in_err-led-clause-performs : goal.returns-in_err-led-clause-performs
unfolding names
returns-in_err-led-clause-performs g c = then _ c.in_ok-take.ensures.performs (leave _ c.from_residual-in_err-led.ensures.1 c.in_err-led.ensures.performs)

pub returns-in_err-names-clause-performs : goal.returns-in_err-names-clause-performs
unfolding names
returns-in_err-names-clause-performs g c = then _ c.in_ok-take.ensures.performs (then _ c.in_ok-led.ensures.performs (leave _ c.from_residual-in_err-names.ensures.1 c.in_err-names.ensures.performs))

pub returns-in_err-take-2-clause-performs : goal.returns-in_err-take-2-clause-performs
unfolding names
returns-in_err-take-2-clause-performs g c = then _ c.in_ok-take.ensures.performs (then _ c.in_ok-led.ensures.performs (then _ c.in_ok-names.ensures.performs
    (leave _ c.from_residual-in_err-take-2.ensures.1 (spend_alike _ _ _ _ (capped_more _ _ _ _ c.in_err-take-2.ensures.small c.names_size.ensures) (rw c.blocks-2.ensures at c.in_err-take-2.ensures.performs)))))

pub returns-clause-performs : goal.returns-clause-performs
unfolding names
returns-clause-performs g c = then _ c.in_ok-take.ensures.performs (then _ c.in_ok-led.ensures.performs (then _ c.in_ok-names.ensures.performs
    (then _ (spend_alike _ _ _ _ (capped_more _ _ _ _ c.in_ok-take-2.ensures.small c.names_size.ensures) (rw c.blocks-2.ensures at c.in_ok-take-2.ensures.performs)) finish)))
