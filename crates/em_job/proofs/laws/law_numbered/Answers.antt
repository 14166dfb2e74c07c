use Rattle.em_job.proofs.Numbered.{begins}
use Rattle.em_job.proofs.laws.law_numbered.Goals as goal

pub returns : goal.returns
returns c = λ book order base i ps j e. begins book order base j i ps e
