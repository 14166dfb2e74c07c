use Rattle.em_view.proofs.Doing.{then_s, leave_s, finish_s, owned_s}
use Rattle.em_job.proofs.carry.after_line.Goals as goal

pub returns-then-is_zero : goal.returns-then-is_zero
returns-then-is_zero g c = rw (← c.is_zero.ensures, c.if-is_zero.true) finish_s

pub returns-in_err-say_ignored : goal.returns-in_err-say_ignored
returns-in_err-say_ignored g c = rw (← c.is_zero.ensures, c.if-is_zero.false, ← c.is_lenient.ensures, c.if-is_lenient.true) (leave_s _ c.from_residual.ensures.1 (owned_s _ c.in_err-say_ignored.ensures))

pub returns-then-is_lenient : goal.returns-then-is_lenient
returns-then-is_lenient g c = rw (← c.is_zero.ensures, c.if-is_zero.false, ← c.is_lenient.ensures, c.if-is_lenient.true) (then_s _ (owned_s _ c.in_ok-say_ignored.ensures) finish_s)

pub returns-in_err-outcome : goal.returns-in_err-outcome
returns-in_err-outcome g c = rw (← c.is_zero.ensures, c.if-is_zero.false, ← c.is_lenient.ensures, c.if-is_lenient.false) (leave_s _ c.from_residual-in_err-outcome.ensures.1 c.in_err-outcome.ensures)

pub returns : goal.returns
returns g c = rw (← c.is_zero.ensures, c.if-is_zero.false, ← c.is_lenient.ensures, c.if-is_lenient.false) (then_s _ c.in_ok-outcome.ensures finish_s)
