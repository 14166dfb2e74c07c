use Rattle.std.proofs.Common.{refl}
use Rattle.em_view.proofs.Doing.{then_s, leave_s, finish_s, out_s, refused_s}
use Rattle.em_reader.specs.Makefiles.{asked_for}
use Rattle.em_reader.proofs.makefiles.asked_for.Goals as goal

pub returns-in_err-place : goal.returns-in_err-place
unfolding asked_for
returns-in_err-place g c = out_s _ refl c.from_residual.ensures.1

pub returns-in_err-content_of : goal.returns-in_err-content_of
unfolding asked_for
returns-in_err-content_of g c = leave_s _ c.from_residual-in_err-content_of.ensures.1 (rw (c.bytes-2.ensures, c.in_ok-place.ensures, c.bytes.ensures) at c.in_err-content_of.ensures)

pub returns-in-None : goal.returns-in-None
unfolding asked_for
returns-in-None g c = then_s _ (rw (c.bytes-2.ensures, c.in_ok-place.ensures, c.bytes.ensures) at c.in_ok-content_of.ensures) (rw c.in-None.is (refused_s _ (rw (c.bytes-in-None.ensures, c.in_ok-place.ensures, c.bytes.ensures) at c.absent.ensures)))

pub returns : goal.returns
unfolding asked_for
returns g c = then_s _ (rw (c.bytes-2.ensures, c.in_ok-place.ensures, c.bytes.ensures) at c.in_ok-content_of.ensures) (rw (c.in-Some.is, c.in_ok-copy-in-Some.ensures) finish_s)
