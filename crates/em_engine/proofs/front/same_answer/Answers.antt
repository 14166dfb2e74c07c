use Rattle.std.proofs.Common.{◌∙◌, ap, sym}
use Rattle.em_tree.specs.declared.question.Answer.TheVariants as told
use Rattle.em_engine.proofs.Finding.{same_names, same_told}
use Rattle.em_engine.proofs.front.same_answer.Goals as goal

pub returns-in-Names-Names : goal.returns-in-Names-Names
returns-in-Names-Names c =
    let d = same_names c.in-Names-Names.names c.in-Names-Names.other in (
      (λ h. c.in-Names-Names.is-0 ∙ ap told.Names (d.0 (sym c.eq-in-Names-Names.ensures ∙ h)) ∙ sym c.in-Names-Names.is-1),
      (λ h. c.eq-in-Names-Names.ensures ∙ d.1 (same_told _ _ (sym c.in-Names-Names.is-0 ∙ h ∙ c.in-Names-Names.is-1))),
    )
