use Rattle.em_view.proofs.Doing.{then_s, leave_s, finish_s}
use Rattle.em_reader.specs.Hearing.{one}
use Rattle.em_reader.proofs.hear.one.Goals as goal

pub returns-in_err-first : goal.returns-in_err-first
unfolding one
returns-in_err-first g c = leave_s _ c.from_residual.ensures.1 c.in_err-first.ensures

pub returns : goal.returns
unfolding one
returns g c = then_s _ c.in_ok-first.ensures (rw (c.both.ensures, c.nothing.ensures) finish_s)
