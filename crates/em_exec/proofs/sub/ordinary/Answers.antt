use Rattle.em_view.proofs.Doing.{then_s, leave_s, finish_s}
use Rattle.em_exec.specs.Subs.{ordinary}
use Rattle.em_exec.proofs.sub.ordinary.Goals as goal

pub returns-in_err-worded_in : goal.returns-in_err-worded_in
unfolding ordinary
returns-in_err-worded_in g c = leave_s _ c.from_residual.ensures.1 c.in_err-worded_in.ensures

pub returns-in_err-joined_in : goal.returns-in_err-joined_in
unfolding ordinary
returns-in_err-joined_in g c = then_s _ c.in_ok-worded_in.ensures (leave_s _ c.from_residual-in_err-joined_in.ensures.1 c.in_err-joined_in.ensures)

pub returns : goal.returns
unfolding ordinary
returns g c = then_s _ c.in_ok-worded_in.ensures (then_s _ c.in_ok-joined_in.ensures finish_s)
