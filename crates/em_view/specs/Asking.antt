-- One question put to a view.
use Rattle.std.specs.Prelude.{◌≡◌, ℕ, ◌+◌, List, [], ◌∷◌, ◌++◌, length, Result, IfOk, IfErr}
use Rattle.em_tree.specs.declared.question.Question.{Question}
use Rattle.em_tree.specs.declared.question.Answer.{Answer}
use Rattle.em_tree.specs.declared.question.Entry.{Entry}
use Rattle.em_view.specs.declared.no.DeskNo.{DeskNo}
use Rattle.em_view.specs.declared.no.DeskNo.TheVariants as no
use Rattle.em_view.specs.Performs.{Told, AreTrue}

-- what was answered is kept, also where memory then runs out
pub record Asks {V : Type 0} (tells : V → Told) (q : Question) (old new : V) (before after : List Entry) (result : Result Answer DeskNo) : Type 0 where
  pub entries : List Entry
  pub grew : after ≡ before ++ entries
  pub told : AreTrue (tells old) entries
  pub one : IfOk result (λ a. entries ≡ record { question = q; answer = a } ∷ [])
  pub ahead : (i : ℕ) (r : Question) → tells new i r ≡ tells old (length entries + i) r
  pub only : IfErr result (λ e. e ≡ no.NoMemory)
