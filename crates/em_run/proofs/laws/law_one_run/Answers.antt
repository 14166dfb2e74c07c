use Rattle.em_run.proofs.Serials.{only_run}
use Rattle.em_run.proofs.laws.law_one_run.Goals as goal

pub returns : goal.returns
returns g c = λ one start jobs a b. only_run _ _ one start jobs a b
