use Rattle.em_task.specs.contracts.job.JobEq.TheImpl.Laws as job_eq_laws
use Rattle.em_job.proofs.spec.JobSpecSpec.copy.Goals as goal

pub returns : goal.returns
returns c = rw c.in_ok-share.ensures (job_eq_laws.laws-law.refl c.args.self.now)
