use Rattle.std.proofs.Common.{sym, ap}
use Rattle.em_base.specs.declared.place.Place.{Place}
use Rattle.em_view.proofs.Doing.{refused_s}
use Rattle.em_script.specs.Strands.{over}
use Rattle.em_script.proofs.Strands.{over_t}
use Rattle.em_plan.proofs.Lists.{left_of, nothing_of}
use Rattle.em_job.specs.declared.stop.JobStop.TheVariants as stop
use Rattle.em_steps.specs.Laps.{said}
use Rattle.em_steps.proofs.Pausing.{halts, unpaused, lacking}
use Rattle.em_steps.proofs.steps.go_spent.Goals as goal

pub returns-in_default-clause-went : goal.returns-in_default-clause-went
returns-in_default-clause-went g c =
    let none = nothing_of c.args.half.lines c.args.half.at (sym c.in_default.ensures) in
    rw none (over_t said)

pub returns-clause-went : goal.returns-clause-went
returns-clause-went g c =
    let left = left_of c.args.half.lines c.args.half.at c.in-Some.ready.now (sym c.in-Some.ensures) in
    rw left (halts c.args.job.now c.args.depth (over said) c.stopped.new.spoken c.stopped.result
    (refused_s (stop.Spent c.in-Some.ready.now.placed.place) (λ h. ap (λ (p : Place). stop.Spent p) c.in_ok-copy.ensures)) c.stopped.ensures)

pub returns-clause-sent : goal.returns-clause-sent
returns-clause-sent g c = unpaused _ c.args.job.now _ _ _ c.stopped.result c.stopped.ensures

pub returns-in_err-copy-clause-went : goal.returns-in_err-copy-clause-went
returns-in_err-copy-clause-went g c = lacking _ c.args.job.now c.args.depth _ c.args.spoken.now c.from_residual.result c.from_residual.ensures.1
