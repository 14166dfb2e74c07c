use Rattle.std.proofs.Common.{[], ◌∷◌, sym, ◌∙◌}
use Rattle.em_plan.specs.Resuming.{numbers_in, open_in}
use Rattle.em_plan.proofs.Numbering.{normal_more, order_more, jobs_more}
use Rattle.em_plan.proofs.job.remaining.Goals as goal

pub loop-need-preserved : goal.loop-need-preserved
loop-need-preserved c =
    let is_open = open_in c.args.marks.now in
    let numbers = numbers_in c.args.marks.now in
    record {
      normal = c.in_ok-add.ensures.normal ∙ rw c.loop-need.invariant.normal (sym (normal_more is_open numbers c.loop-need.yielded (c.in-Some.need ∷ [])));
      order = c.in_ok-add.ensures.order ∙ rw c.loop-need.invariant.order (sym (order_more is_open numbers c.loop-need.yielded (c.in-Some.need ∷ [])));
      jobs = c.in_ok-add.ensures.jobs ∙ rw c.loop-need.invariant.jobs (sym (jobs_more is_open numbers c.loop-need.yielded (c.in-Some.need ∷ [])));
    }
