use Rattle.em_insight.proofs.Finding.{path_is, path_weighs}
use Rattle.em_insight.proofs.laws.law_path.Goals as goal

pub returns-clause-jobs : goal.returns-clause-jobs
returns-clause-jobs c = path_is

pub returns-clause-fuel : goal.returns-clause-fuel
returns-clause-fuel c = path_weighs
