use Rattle.std.proofs.Common.{◌∙◌, ap}
use Rattle.em_plan.specs.Resuming.{numbers_in}
use Rattle.em_plan.proofs.Marking.{opened_one}
use Rattle.em_plan.proofs.marks.open_one.Goals as goal

pub returns : goal.returns
returns c = λ q. rw (c.in_ok-insert.ensures.ok, c.in_ok-copy.ensures, c.take_jobs-jobs.ensures.rest, c.bytes.ensures)
    (opened_one c.args.marks.now c.args.name.now q c.take_jobs-jobs.result (c.take_jobs-jobs.ensures.jobs ∙ ap (numbers_in c.args.marks.now) c.bytes.ensures))
