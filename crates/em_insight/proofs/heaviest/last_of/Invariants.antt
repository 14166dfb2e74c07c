use Rattle.std.proofs.Common.{◌<◌}
use Rattle.em_insight.specs.Links.{IsLead}
use Rattle.em_insight.proofs.heaviest.last_of.Given as goal

abbrev pub invariant-loop-job : goal.invariant-loop-job
invariant-loop-job l = IsLead l.ends (λ w. w < l.job) l.lead
