use Rattle.em_implicit.proofs.Choosing.{chosen, best, none}
use Rattle.em_implicit.proofs.laws.law_found.Goals as goal

pub returns : goal.returns
returns c = record {
  chosen = λ rules patterns tree cwd target. chosen rules tree cwd target patterns;
  best = λ rules patterns tree cwd target. best rules tree cwd target patterns;
  none = λ rules patterns tree cwd target. none rules tree cwd target patterns;
}
