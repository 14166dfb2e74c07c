-- What a view may answer.
--     IsAnswerTo q a      the answer is of the question's kind
--     IsTold said a       the answer is the one that was said, where one was
--     nth_or_last xs i    the i-th item, from 0, and beyond the end the last one
use Rattle.std.specs.Prelude.{◌≡◌, ℕ, ◌-◌, List, length, Option, Some, None, slice_get, min}
use Rattle.em_tree.specs.declared.question.Question.{Question}
use Rattle.em_tree.specs.declared.question.Question.TheVariants as question
use Rattle.em_tree.specs.declared.question.Answer.{Answer}
use Rattle.em_tree.specs.declared.question.Answer.TheVariants as answer

abbrev pub IsAnswerTo : Question → Answer → Type 0
IsAnswerTo (question.Kind p) (answer.Kind k) = Unit {0}
IsAnswerTo (question.Stamp p) (answer.Stamp s) = Unit {0}
IsAnswerTo (question.Content p) (answer.Content b) = Unit {0}
IsAnswerTo (question.Names p) (answer.Names ns) = Unit {0}
IsAnswerTo (question.Link p) (answer.Link text) = Unit {0}
IsAnswerTo (question.Outcome j) (answer.Outcome o) = Unit {0}
IsAnswerTo _ _ = ⊥

abbrev pub IsTold : Option Answer → Answer → Type 0
IsTold None a = Unit {0}
IsTold (Some said) a = a ≡ said

abbrev pub nth_or_last : {X : Type 0} → List X → ℕ → Option X
nth_or_last xs i = slice_get xs (min i (length xs - 1))
