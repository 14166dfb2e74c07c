use Rattle.std.proofs.Common.{take}
use Rattle.em_insight.specs.Queues.{IsDue}
use Rattle.em_insight.proofs.queue.advance.Given as goal

abbrev pub invariant-loop-at : goal.invariant-loop-at
invariant-loop-at l = IsDue l.places (take l.at l.waits) l.latest
