use Rattle.std.proofs.Common.{drop, ◌+◌, map, sym, arith}
use Rattle.em_script.proofs.Strands.{more_t, step_t, end_t, over_t}
use Rattle.em_plan.proofs.Lists.{left_of, nothing_of}
use Rattle.em_steps.specs.Laps.{said, close, by_lap, lines_plot, meant}
use Rattle.em_steps.proofs.Pausing.{halts, pauses}
use Rattle.em_steps.proofs.steps.go_lines.Goals as goal

pub loop-ready-preserved : goal.loop-ready-preserved
loop-ready-preserved g c =
    let j = c.args.job.now in
    let lines = c.loop-ready.lines in
    let i = c.loop-ready.at in
    let left = left_of lines i c.in-Some.ready.now (sym c.in-Some.ensures) in (
      more_t (close j) (by_lap j c.args.depth c.args.half.opened c.in-Some.ready.now.placed (lines_plot j c.args.depth c.args.half.opened (map meant (drop (i + 1) lines))))
          (rw left at c.loop-ready.invariant.0) (rw c.in-Ok-Next.field-0-is at c.in-Ok-Next.ensures.does),
      omega (arith, c.loop-ready.invariant.1, c.in-Ok-Next.ensures.does.performs.grows.burns),
    )

pub returns-in-Ok-Ended-clause-went : goal.returns-in-Ok-Ended-clause-went
returns-in-Ok-Ended-clause-went g c =
    let j = c.args.job.now in
    let lines = c.loop-ready.lines in
    let i = c.loop-ready.at in
    let left = left_of lines i c.in-Some.ready.now (sym c.in-Some.ensures) in
    end_t (rw left at c.loop-ready.invariant.0) (step_t (close j) (by_lap j c.args.depth c.args.half.opened c.in-Some.ready.now.placed (lines_plot j c.args.depth c.args.half.opened (map meant (drop (i + 1) lines))))
    (rw c.in-Ok-Ended.field-0-is at c.in-Ok-Ended.ensures.does) (over_t said))

pub returns-in-Ok-Begins-clause-went : goal.returns-in-Ok-Begins-clause-went
returns-in-Ok-Begins-clause-went g c =
    let j = c.args.job.now in
    let x = c.args.half.opened in
    let lines = c.loop-ready.lines in
    let i = c.loop-ready.at in
    let left = left_of lines i c.in-Some.ready.now (sym c.in-Some.ensures) in
    rw c.paused.ensures (end_t (rw left at c.loop-ready.invariant.0) (step_t (close j) (by_lap j c.args.depth x c.in-Some.ready.now.placed (lines_plot j c.args.depth x (map meant (drop (i + 1) lines))))
    (rw c.in-Ok-Begins.field-0-is at c.in-Ok-Begins.ensures.does)
    (pauses j c.args.depth (record { opened = x; lines = lines; at = i; env = c.in-Ok-Begins.next }) c.in-Ok-Begins.line c.in-Some.ready.now (drop (i + 1) lines) left)))

pub returns-in-Err-clause-went : goal.returns-in-Err-clause-went
returns-in-Err-clause-went g c =
    let j = c.args.job.now in
    let lines = c.loop-ready.lines in
    let i = c.loop-ready.at in
    let left = left_of lines i c.in-Some.ready.now (sym c.in-Some.ensures) in
    end_t (rw left at c.loop-ready.invariant.0) (halts j c.args.depth (by_lap j c.args.depth c.args.half.opened c.in-Some.ready.now.placed (lines_plot j c.args.depth c.args.half.opened (map meant (drop (i + 1) lines))))
    c.stopped.new.spoken c.stopped.result c.in-Err.ensures.does c.stopped.ensures)

pub returns-clause-went : goal.returns-clause-went
returns-clause-went g c =
    let none = nothing_of c.loop-ready.lines c.loop-ready.at (sym c.in_default.ensures) in
    end_t (rw none at c.loop-ready.invariant.0) (over_t said)
