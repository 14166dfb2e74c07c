use Rattle.em_view.proofs.Doing.{then_s, leave_s, finish_s}
use Rattle.em_reader.specs.Hearing.{two}
use Rattle.em_reader.proofs.hear.two.Goals as goal

pub returns-in_err-first : goal.returns-in_err-first
unfolding two
returns-in_err-first g c = leave_s _ c.from_residual.ensures.1 (rw c.bytes.ensures at c.in_err-first.ensures)

pub returns-in_err-second : goal.returns-in_err-second
unfolding two
returns-in_err-second g c = then_s _ (rw c.bytes.ensures at c.in_ok-first.ensures) (leave_s _ c.from_residual-in_err-second.ensures.1 (rw c.bytes-2.ensures at c.in_err-second.ensures))

pub returns : goal.returns
unfolding two
returns g c = then_s _ (rw c.bytes.ensures at c.in_ok-first.ensures) (then_s _ (rw c.bytes-2.ensures at c.in_ok-second.ensures) (rw c.both.ensures finish_s))
