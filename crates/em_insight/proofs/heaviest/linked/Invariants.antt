use Rattle.em_insight.specs.Links.{Linked}
use Rattle.em_insight.proofs.heaviest.linked.Given as goal

abbrev pub invariant-loop-line : goal.invariant-loop-line
invariant-loop-line l = Linked l.lines l.line-index l.ends.items l.before.items
