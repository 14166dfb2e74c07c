use Rattle.std.proofs.Common.{◌-◌, ◌≤◌, drop, length, map}
use Rattle.em_script.proofs.Strands.{Goes_t}
use Rattle.em_steps.specs.Laps.{lines_plot, meant}
use Rattle.em_steps.proofs.steps.go_lines.Given as goal

-- the rest leads where the whole does, and fuel has only been spent
abbrev pub invariant-loop-ready : goal.invariant-loop-ready
invariant-loop-ready g l = Goes_t g.V.View.tells l.initial.desk l.desk l.initial.spoken l.spoken (lines_plot l.job l.depth l.fn.half.opened (map meant (drop l.fn.half.at l.fn.half.lines)) l.fn.half.env)
    (lines_plot l.job l.depth l.opened (map meant (drop l.at l.lines)) l.env) × (l.desk.work.fuel ≤ l.initial.desk.work.fuel)

abbrev pub decreases-loop-ready : goal.decreases-loop-ready
decreases-loop-ready g l = length l.lines - l.at
