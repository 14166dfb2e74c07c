use Rattle.em_insight.proofs.Filing.{Blank, Filling}
use Rattle.em_insight.proofs.queue.Queue.new.Given as goal

abbrev pub invariant-loop : goal.invariant-loop
invariant-loop l = Blank l.places.items l.held.items l.index

abbrev pub invariant-loop-line : goal.invariant-loop-line
invariant-loop-line l = Filling l.lines l.queue l.line-index
