use Rattle.em_steps.proofs.Pausing.{idle}
use Rattle.em_steps.proofs.steps.JobSteps.go_on.Goals as goal

pub returns-in-Fresh-clause-went : goal.returns-in-Fresh-clause-went
returns-in-Fresh-clause-went g c = rw c.in-Fresh.is (rw (c.get-job.ensures.job, c.outcomes_of-known.ensures) at c.go_fresh.ensures.went)

pub returns-in-Answered-clause-went : goal.returns-in-Answered-clause-went
returns-in-Answered-clause-went g c = rw c.in-Answered.is (rw c.get-job.ensures.job at c.go_answered.ensures.went)

pub returns-in-Spent-clause-went : goal.returns-in-Spent-clause-went
returns-in-Spent-clause-went g c = rw c.in-Spent.is (rw c.get-job.ensures.job at c.go_spent.ensures.went)

pub returns-clause-went : goal.returns-clause-went
returns-clause-went g c = let s = c.args.self.now in idle s.spec s.depth s.known c.args.stage c.in-Waiting.is
