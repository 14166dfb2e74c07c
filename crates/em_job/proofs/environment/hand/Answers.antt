use Rattle.std.proofs.Common.{refl}
use Rattle.em_view.proofs.Doing.{then_s, leave_s, finish_s, out_s}
use Rattle.em_job.specs.Carrying.{hand_over}
use Rattle.em_job.proofs.environment.hand.Goals as goal

pub returns-then-not-is_given : goal.returns-then-not-is_given
returns-then-not-is_given g c = rw (← c.is_given.ensures, c.if-not-is_given.true) finish_s

pub returns-in_err-text : goal.returns-in_err-text
unfolding hand_over
returns-in_err-text g c = rw (← c.is_given.ensures, c.if-not-is_given.false) (leave_s _ c.from_residual.ensures.1 c.in_err-text.ensures)

pub returns-in_err-put : goal.returns-in_err-put
unfolding hand_over
returns-in_err-put g c = rw (← c.is_given.ensures, c.if-not-is_given.false) (then_s _ c.in_ok-text.ensures (out_s _ refl c.from_residual-in_err-put.ensures.1))

pub returns : goal.returns
unfolding hand_over
returns g c = rw (← c.is_given.ensures, c.if-not-is_given.false) (then_s _ c.in_ok-text.ensures (rw c.in_ok-put.ensures finish_s))
