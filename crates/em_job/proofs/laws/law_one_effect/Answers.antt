use Rattle.em_job.proofs.OneEffect.{one_effect}
use Rattle.em_job.proofs.laws.law_one_effect.Goals as goal

pub returns : goal.returns
returns c = one_effect c.law_one_meaning.ensures
