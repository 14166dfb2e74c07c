use Rattle.std.proofs.Common.{refl}
use Rattle.em_view.proofs.Performing.{then, leave, finish, ran_out}
use Rattle.em_textutil.specs.Expressions.{test_words}
use Rattle.em_textutil.proofs.expression.test_words.Goals as goal

pub returns-in_err-verdict : goal.returns-in_err-verdict
unfolding test_words
returns-in_err-verdict g c = leave _ c.from_residual.ensures.1 (rw (c.form_of.ensures, c.stripped-negated.ensures.rest) at c.in_err-verdict.ensures)

pub returns-in_err-answer : goal.returns-in_err-answer
unfolding test_words
returns-in_err-answer g c = then _ (rw (c.form_of.ensures, c.stripped-negated.ensures.rest) at c.in_ok-verdict.ensures) (ran_out _ refl c.from_residual-in_err-answer.ensures.1)

pub returns : goal.returns
unfolding test_words
returns g c = then _ (rw (c.form_of.ensures, c.stripped-negated.ensures.rest) at c.in_ok-verdict.ensures) (rw (c.in_ok-answer.ensures, c.stripped-negated.ensures.negated) finish)
