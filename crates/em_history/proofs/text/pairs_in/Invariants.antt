use Rattle.em_history.proofs.Reading.{Passed}
use Rattle.em_history.proofs.text.pairs_in.Given as goal

abbrev pub invariant-loop-line : goal.invariant-loop-line
invariant-loop-line l = Passed l.fn.body l.pairs.items l.previous l.line-iterator
