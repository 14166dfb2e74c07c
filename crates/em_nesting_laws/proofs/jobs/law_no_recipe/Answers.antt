use Rattle.em_nesting_laws.proofs.Bare.{is_plain}
use Rattle.em_nesting_laws.proofs.jobs.law_no_recipe.Goals as goal

pub returns : goal.returns
returns c = record {
  changes = λ j s e n makes none. c.law_recipe.ensures.changes j s e n ((c.law_plain.ensures j s e n (is_plain j none s)).1 makes) none;
  made = λ j s e n makes none. c.law_recipe.ensures.made j s e n ((c.law_plain.ensures j s e n (is_plain j none s)).1 makes) none;
}
