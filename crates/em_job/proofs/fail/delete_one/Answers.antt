use Rattle.std.proofs.Common.{refl}
use Rattle.em_view.proofs.Doing.{finish_s, out_s}
use Rattle.em_job.specs.Carrying.{delete_one}
use Rattle.em_job.proofs.fail.delete_one.Goals as goal

pub returns-then-is_phony : goal.returns-then-is_phony
unfolding delete_one
returns-then-is_phony g c = rw (← c.is_phony.ensures, c.if-is_phony.true) finish_s

pub returns-in_err-path_of : goal.returns-in_err-path_of
returns-in_err-path_of g c = out_s _ refl c.from_residual.ensures.1

pub returns-in-None : goal.returns-in-None
unfolding delete_one
returns-in-None g c = rw (← c.is_phony.ensures, c.if-is_phony.false, ← c.in_ok-path_of.ensures, c.in-None.is) finish_s

pub returns-in-Some : goal.returns-in-Some
unfolding delete_one
returns-in-Some g c = rw (← c.is_phony.ensures, c.if-is_phony.false, ← c.in_ok-path_of.ensures, c.in-Some.is) c.delete_at.ensures
