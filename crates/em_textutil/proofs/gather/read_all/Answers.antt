use Rattle.std.proofs.Common.{refl}
use Rattle.em_view.proofs.Performing.{finish, ran_out}
use Rattle.em_textutil.proofs.gather.read_all.Goals as goal

pub returns-in_err-input_alone : goal.returns-in_err-input_alone
returns-in_err-input_alone g c = ran_out _ refl c.from_residual.ensures.1

pub returns-then-is_empty : goal.returns-then-is_empty
returns-then-is_empty g c = rw (← c.is_empty.ensures, c.if-is_empty.true, c.in_ok-input_alone.ensures) finish

pub returns : goal.returns
returns g c = rw (← c.is_empty.ensures, c.if-is_empty.false) c.sources.ensures
