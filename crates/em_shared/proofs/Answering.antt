-- What is looked up is an answer to the question.
use Rattle.em_tree.specs.declared.question.Question.{Question}
use Rattle.em_tree.specs.declared.question.Question.TheVariants as ask
use Rattle.em_chain.specs.Looking.{looked}
use Rattle.em_chain.specs.Posts.{Posted}
use Rattle.em_view.specs.Views.{IsAnswerTo}
use Rattle.std.proofs.Common.{◌≡◌, ℕ, Result, Ok, Err, sym, subst}
use Rattle.std.specs.Prelude.{IfOk}
use Rattle.em_tree.specs.declared.question.Answer.{Answer}

pub looked_is : (v : Posted) (j : ℕ) (q : Question) → IsAnswerTo q (looked v j q)
unfolding looked
looked_is v j (ask.Kind p) = tt
looked_is v j (ask.Stamp p) = tt
looked_is v j (ask.Content p) = tt
looked_is v j (ask.Names p) = tt
looked_is v j (ask.Link p) = tt
looked_is v j (ask.Outcome k) = tt

pub answered : {E : Type 0} (v : Posted) (j : ℕ) (q : Question) (r : Result Answer E) → IfOk r (λ a. a ≡ looked v j q) → IfOk r (λ a. IsAnswerTo q a)
answered v j q (Ok a) is = subst (λ (b : Answer). IsAnswerTo q b) (sym is) (looked_is v j q)
answered v j q (Err e) is = tt
