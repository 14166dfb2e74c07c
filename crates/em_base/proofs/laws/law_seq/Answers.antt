use lib.Pointwise.{pointwise_decides}
use Rattle.em_base.proofs.laws.law_seq.Goals as goal

pub returns : goal.returns
returns g c = λ decides xs ys. pointwise_decides decides xs ys
