use Rattle.std.proofs.Common.{◌∙◌}
use Rattle.em_job.proofs.making.spec_of.Goals as goal

pub returns : goal.returns
returns c = c.in_ok-spec.ensures ∙ c.in_ok-job.ensures.common c.args.order.now c.args.base c.in_ok-common.ensures
