use Rattle.std.proofs.Common.{refl}
use Rattle.em_view.proofs.Performing.{finish, refused, ran_out}
use Rattle.em_textutil.proofs.expression.says.Goals as goal

pub returns-in-Word : goal.returns-in-Word
returns-in-Word g c = rw (c.in-Word.is, c.is_filled.ensures, c.word_at.ensures) finish

pub returns-in-Unary : goal.returns-in-Unary
returns-in-Unary g c = rw c.in-Unary.is (rw c.word_at-in-Unary.ensures at c.says_unary.ensures)

pub returns-in-Binary : goal.returns-in-Binary
returns-in-Binary g c = rw c.in-Binary.is (rw (c.word_at-in-Binary.ensures, c.word_at-in-Binary-2.ensures) at c.says_binary.ensures)

pub returns-in_err-letter-in-Letter : goal.returns-in_err-letter-in-Letter
returns-in_err-letter-in-Letter g c = ran_out _ refl c.from_residual.ensures.1

pub returns-in_ok-letter-in-Letter : goal.returns-in_ok-letter-in-Letter
returns-in_ok-letter-in-Letter g c = rw (c.in-Letter.is, c.in_ok-letter-in-Letter.ensures) refused

pub returns-in-Syntax : goal.returns-in-Syntax
returns-in-Syntax g c = rw c.in-Syntax.is finish
