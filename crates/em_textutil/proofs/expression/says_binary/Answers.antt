use Rattle.std.proofs.Common.{refl}
use Rattle.em_view.proofs.Performing.{finish, ran_out}
use Rattle.em_textutil.proofs.expression.says_binary.Goals as goal

pub returns-in-Same : goal.returns-in-Same
returns-in-Same g c = rw (c.in-Same.is, c.eq.ensures) finish

pub returns-in-Other : goal.returns-in-Other
returns-in-Other g c = rw (c.in-Other.is, c.ne.ensures) finish

pub returns-in_err-numbers_say-in-Number : goal.returns-in_err-numbers_say-in-Number
returns-in_err-numbers_say-in-Number g c = ran_out _ refl c.from_residual.ensures.1

pub returns-in_ok-numbers_say-in-Number : goal.returns-in_ok-numbers_say-in-Number
returns-in_ok-numbers_say-in-Number g c = rw (c.in-Number.is, c.in_ok-numbers_say-in-Number.ensures) finish
