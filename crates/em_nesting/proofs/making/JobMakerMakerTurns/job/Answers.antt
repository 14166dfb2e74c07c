use Rattle.std.proofs.Common.{◌≡◌, ◌∙◌, Some, slice_get, sym, ap}
use Rattle.em_plan.specs.declared.planned.PlanJob.{PlanJob}
use Rattle.em_task.specs.declared.job.Job.{Job}
use Rattle.em_steps.specs.Laps.{fresh_plot}
use Rattle.em_submake.proofs.Paths.{reads_itself}
use Rattle.em_nesting.specs.Nested.{planned_job}
use Rattle.em_nesting.proofs.Placing.{stands_at}
use Rattle.em_nesting.proofs.making.JobMakerMakerTurns.job.Goals as goal

pub spec_of-requires-clause-dir : goal.spec_of-requires-clause-dir
spec_of-requires-clause-dir c = reads_itself c.args.line.now.order.dir c.requires.sent.path

pub returns : goal.returns
returns c =
    let l = c.args.line.now in
    let planned : PlanJob = c.index-items-number.result in
    let there : slice_get c.args.plan.now.jobs c.args.number ≡ Some planned = stands_at c.args.plan.now.jobs c.args.number planned c.requires.number (rw c.items.ensures at c.index-items-number.is) in
    c.in_ok-steps.ensures ∙ ap (λ (j : Job). fresh_plot j l.depth (Some c.args.known)) c.in_ok-spec.ensures ∙ ap (planned_job l c.args.number c.args.book.now c.args.known) (sym there)
