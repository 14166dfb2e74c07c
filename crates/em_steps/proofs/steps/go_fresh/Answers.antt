use Rattle.std.proofs.Common.{[], None}
use Rattle.em_script.proofs.Strands.{step_t, over_t}
use Rattle.em_steps.specs.Laps.{said, close, by_prepared, lines_plot, fresh}
use Rattle.em_steps.proofs.Pausing.{halts, lost, read_all, unpaused}
use Rattle.em_steps.proofs.steps.go_fresh.Goals as goal

pub returns-in-Ok-Ended-clause-went : goal.returns-in-Ok-Ended-clause-went
unfolding fresh
returns-in-Ok-Ended-clause-went g c = step_t (close c.args.job.now) (by_prepared c.args.job.now c.args.depth) (rw c.in-Ok-Ended.field-0-is at c.in-Ok-Ended.ensures) (over_t said)

pub returns-in_ok-read_lines-in-Ok-Lines-clause-went : goal.returns-in_ok-read_lines-in-Ok-Lines-clause-went
unfolding fresh
returns-in_ok-read_lines-in-Ok-Lines-clause-went g c =
    let j = c.args.job.now in
    step_t (close j) (by_prepared j c.args.depth) (rw c.in-Ok-Lines.field-0-is at c.in-Ok-Lines.ensures)
    (read_all j c.args.depth c.in-Ok-Lines.lines c.in_ok-read_lines-in-Ok-Lines.field-0 [] (λ rs. lines_plot j c.args.depth c.in-Ok-Lines.opened rs None) c.in_ok-read_lines-in-Ok-Lines.ensures c.go_lines.ensures.went)

pub returns-in_err-read_lines-in-Ok-Lines-clause-went : goal.returns-in_err-read_lines-in-Ok-Lines-clause-went
returns-in_err-read_lines-in-Ok-Lines-clause-went g c = lost _ c.args.job.now c.args.depth _ c.prepare_job.new.spoken c.from_residual.result c.from_residual.ensures.1 c.in-Ok-Lines.ensures

pub returns-in-Err-clause-went : goal.returns-in-Err-clause-went
unfolding fresh
returns-in-Err-clause-went g c = halts c.args.job.now c.args.depth (by_prepared c.args.job.now c.args.depth) c.stopped.new.spoken c.stopped.result c.in-Err.ensures c.stopped.ensures

pub returns-in-Err-clause-sent : goal.returns-in-Err-clause-sent
returns-in-Err-clause-sent g c = unpaused _ c.args.job.now c.in-Err.stop _ _ c.stopped.result c.stopped.ensures
