use Rattle.em_tree.proofs.Lawful.{laid_twice}
use Rattle.em_tree.proofs.laws.law_laid_twice.Goals as goal

pub returns : goal.returns
returns c = laid_twice
