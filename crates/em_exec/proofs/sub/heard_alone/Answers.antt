use Rattle.std.proofs.Common.{List, ℕ, ◌∙◌, refl}
use Rattle.em_view.proofs.Doing.{then_s, leave_s, finish_s}
use Rattle.em_exec.proofs.Burning.{same_end}
use Rattle.em_exec.proofs.sub.heard_alone.Goals as goal

pub returns-in_err-words-clause-does : goal.returns-in_err-words-clause-does
returns-in_err-words-clause-does g c = leave_s _ c.from_residual.ensures.1 c.in_err-words.ensures.does

pub returns-clause-does : goal.returns-clause-does
returns-clause-does g c = then_s _ c.in_ok-words.ensures.does (rw c.behind_first.ensures finish_s)

pub returns-in_err-words-clause-burns : goal.returns-in_err-words-clause-burns
returns-in_err-words-clause-burns g c = λ n. c.in_err-words.ensures.burns (same_end (List (List ℕ)) _ c.from_residual.result c.from_residual.ensures.1 ∙ n)

pub returns-clause-burns : goal.returns-clause-burns
returns-clause-burns g c = λ n. c.in_ok-words.ensures.burns refl
