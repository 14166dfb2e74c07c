use Rattle.std.proofs.Common.{◌≡◌, ◌+◌, sym, subst, take}
use Rattle.em_insight.specs.Each.{Any}
use Rattle.em_insight.specs.Links.{IsLead}
use Rattle.em_insight.proofs.Linking.{lead_taken, take_whole}
use Rattle.em_insight.proofs.heaviest.leader.Goals as goal

pub loop-wait-preserved : goal.loop-wait-preserved
loop-wait-preserved c =
    subst (IsLead c.args.ends.now (λ w. Any (λ v. v ≡ w) (take (c.loop-wait.wait-index + 1) c.args.waits.now))) (sym c.offered-lead.ensures)
    (lead_taken c.args.ends.now c.args.waits.now c.loop-wait.wait-index c.loop-wait.lead c.loop-wait-test.true c.loop-wait.invariant)

pub returns : goal.returns
returns c = subst (λ ws. IsLead c.args.ends.now (λ w. Any (λ v. v ≡ w) ws) c.loop-wait.lead) (take_whole c.args.waits.now c.loop-wait.wait-index c.loop-wait-test.false) c.loop-wait.invariant
