use Rattle.std.proofs.Common.{◌≡◌, ◌-◌, length}
use Rattle.em_insight.specs.Standings.{Standing}
use Rattle.em_insight.proofs.listing.schedule.Given as goal

abbrev pub invariant-loop-dispatch : goal.invariant-loop-dispatch
invariant-loop-dispatch l = record {
  standing : Standing l.dispatch;
  lines : l.dispatch.lines.now ≡ l.report.lines;
  agents : length l.dispatch.free.items ≡ l.agents;
}

abbrev pub decreases-loop-dispatch : goal.decreases-loop-dispatch
decreases-loop-dispatch l = length l.report.lines - length l.dispatch.slots.items
