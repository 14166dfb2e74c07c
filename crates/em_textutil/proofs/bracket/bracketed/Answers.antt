use Rattle.std.proofs.Common.{refl}
use Rattle.em_view.proofs.Performing.{finish, ran_out}
use Rattle.em_textutil.specs.Utilities.{bracketed}
use Rattle.em_textutil.proofs.bracket.bracketed.Goals as goal

pub returns-in_err-answer : goal.returns-in_err-answer
returns-in_err-answer g c = ran_out _ refl c.from_residual.ensures.1

pub returns-then-lacks_end : goal.returns-then-lacks_end
unfolding bracketed
returns-then-lacks_end g c = rw (← c.lacks_end.ensures, c.if-lacks_end.true, c.in_ok-answer.ensures) finish

pub returns : goal.returns
unfolding bracketed
returns g c = rw (← c.lacks_end.ensures, c.if-lacks_end.false) (rw c.saturating_sub-end.ensures at c.test_words.ensures)
