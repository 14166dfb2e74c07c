use Rattle.std.proofs.Common.{drop}
use Rattle.em_insight.proofs.Filing.{Releasing}
use Rattle.em_insight.proofs.queue.Queue.release.Given as goal

abbrev pub invariant-loop-next : goal.invariant-loop-next
invariant-loop-next l = Releasing l.lines l.initial.self l.self (drop l.next-index l.next-items)
