use Rattle.std.proofs.Common.{refl}
use Rattle.em_view.proofs.Asking.{not_asked}
use Rattle.em_view.proofs.desk.ask_view.Goals as goal

pub returns-in_err-reserve : goal.returns-in_err-reserve
returns-in_err-reserve g c = rw c.in_err-reserve.ensures.items (not_asked c.args.question _ _ _ _ (λ i x. refl) c.from_residual.ensures.1)

pub returns-in_err-answer : goal.returns-in_err-answer
returns-in_err-answer g c = rw c.in_ok-reserve.ensures.items (not_asked c.args.question _ _ _ _ c.in_err-answer.ensures.lost c.from_residual-in_err-answer.ensures.1)
