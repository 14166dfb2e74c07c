use Rattle.std.proofs.Common.{refl}
use Rattle.em_view.proofs.Doing.{finish_s, out_s}
use Rattle.em_job.proofs.environment.handed_text.Goals as goal

pub returns-then-is_expanded : goal.returns-then-is_expanded
returns-then-is_expanded g c = rw (← c.is_expanded.ensures, c.if-is_expanded.true) (rw c.bytes.ensures at c.expand_at.ensures)

pub returns-in_err-copy : goal.returns-in_err-copy
returns-in_err-copy g c = out_s _ refl c.from_residual.ensures.1

pub returns : goal.returns
returns g c = rw (← c.is_expanded.ensures, c.if-is_expanded.false, c.in_ok-copy.ensures) finish_s
