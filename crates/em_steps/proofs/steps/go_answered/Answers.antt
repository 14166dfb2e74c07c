use Rattle.std.proofs.Common.{drop, ◌+◌, map, sym}
use Rattle.em_script.proofs.Strands.{step_t, over_t}
use Rattle.em_plan.proofs.Lists.{left_of, nothing_of}
use Rattle.em_steps.specs.Laps.{said, close, by_end, lines_plot, meant}
use Rattle.em_steps.proofs.Pausing.{halts, unpaused}
use Rattle.em_steps.proofs.steps.go_answered.Goals as goal

pub returns-in_default-clause-went : goal.returns-in_default-clause-went
returns-in_default-clause-went g c =
    let none = nothing_of c.args.half.lines c.args.half.at (sym c.in_default.ensures) in
    rw none (over_t said)

pub returns-in-Ok-Next-clause-went : goal.returns-in-Ok-Next-clause-went
returns-in-Ok-Next-clause-went g c =
    let j = c.args.job.now in
    let lines = c.args.half.lines in
    let left = left_of lines c.args.half.at c.in-Some.ready.now (sym c.in-Some.ensures) in
    rw left (step_t (close j) (by_end j c.args.depth c.args.half.opened (lines_plot j c.args.depth c.args.half.opened (map meant (drop (c.args.half.at + 1) lines))))
    (rw c.items-stamps.ensures at (rw c.in-Ok-Next.field-0-is at c.in-Ok-Next.ensures)) c.go_lines.ensures.went)

pub returns-in-Ok-Ended-clause-went : goal.returns-in-Ok-Ended-clause-went
returns-in-Ok-Ended-clause-went g c =
    let j = c.args.job.now in
    let lines = c.args.half.lines in
    let left = left_of lines c.args.half.at c.in-Some.ready.now (sym c.in-Some.ensures) in
    rw left (step_t (close j) (by_end j c.args.depth c.args.half.opened (lines_plot j c.args.depth c.args.half.opened (map meant (drop (c.args.half.at + 1) lines))))
    (rw c.items-stamps.ensures at (rw c.in-Ok-Ended.field-0-is at c.in-Ok-Ended.ensures)) (over_t said))

pub returns-in-Err-clause-went : goal.returns-in-Err-clause-went
returns-in-Err-clause-went g c =
    let j = c.args.job.now in
    let lines = c.args.half.lines in
    let left = left_of lines c.args.half.at c.in-Some.ready.now (sym c.in-Some.ensures) in
    rw left (halts j c.args.depth (by_end j c.args.depth c.args.half.opened (lines_plot j c.args.depth c.args.half.opened (map meant (drop (c.args.half.at + 1) lines))))
    c.stopped.new.spoken c.stopped.result (rw c.items-stamps.ensures at c.in-Err.ensures) c.stopped.ensures)

pub returns-in-Err-clause-sent : goal.returns-in-Err-clause-sent
returns-in-Err-clause-sent g c = unpaused _ c.args.job.now c.in-Err.stop _ _ c.stopped.result c.stopped.ensures
