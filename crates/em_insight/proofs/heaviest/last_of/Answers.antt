use Rattle.std.proofs.Common.{◌<◌, ◌+◌, sym, subst, refl, length}
use Rattle.std.proofs.lemmas.Option.{slice_get_read}
use Rattle.em_insight.specs.Links.{IsLead}
use Rattle.em_insight.proofs.Linking.{lead_counted, sound}
use Rattle.em_insight.proofs.heaviest.last_of.Goals as goal

pub loop-job-preserved : goal.loop-job-preserved
loop-job-preserved c =
    subst (IsLead c.args.ends.now (λ w. w < c.loop-job.job + 1)) (sym c.offered-lead.ensures)
    (lead_counted c.args.ends.now c.loop-job.job c.index-lines-job.result.job c.loop-job.lead
    ((sound c.args.lines.now c.requires.order).job c.loop-job.job c.index-lines-job.result (slice_get_read c.args.lines.now (length c.args.lines.now) c.loop-job.job c.index-lines-job.result refl c.loop-job-test.true c.index-lines-job.is)) c.loop-job.invariant)
