use Rattle.std.proofs.Common.{length}
use Rattle.em_insight.proofs.Filing.{Admitting}
use Rattle.em_insight.proofs.queue.Queue.admit.Given as goal

abbrev pub invariant-loop-due : goal.invariant-loop-due
invariant-loop-due l = Admitting l.lines l.moment l.initial.self l.self

abbrev pub decreases-loop-due : goal.decreases-loop-due
decreases-loop-due l = length l.self.coming.keys
