use Rattle.std.proofs.Common.{◌≡◌, take}
use Rattle.em_insight.specs.Each.{Any}
use Rattle.em_insight.specs.Links.{IsLead}
use Rattle.em_insight.proofs.heaviest.leader.Given as goal

abbrev pub invariant-loop-wait : goal.invariant-loop-wait
invariant-loop-wait l = IsLead l.ends (λ w. Any (λ v. v ≡ w) (take l.wait-index l.waits)) l.lead
