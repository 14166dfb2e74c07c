use Rattle.std.proofs.Common.{refl}
use Rattle.em_view.proofs.Doing.{then_s, leave_s, finish_s, out_s}
use Rattle.em_reader.specs.Acting.{matches_of}
use Rattle.em_reader.proofs.act.matches_of.Goals as goal

pub returns-in_err-names : goal.returns-in_err-names
unfolding matches_of
returns-in_err-names g c = leave_s _ c.from_residual.ensures.1 (rw c.requires at c.in_err-names.ensures)

pub returns-in_err-or_itself : goal.returns-in_err-or_itself
unfolding matches_of
returns-in_err-or_itself g c = then_s _ (rw c.requires at c.in_ok-names.ensures) (out_s _ refl c.from_residual-in_err-or_itself.ensures.1)

pub returns : goal.returns
unfolding matches_of
returns g c = then_s _ (rw c.requires at c.in_ok-names.ensures) (rw c.in_ok-or_itself.ensures finish_s)
