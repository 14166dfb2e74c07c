use Rattle.std.proofs.Common.{◌≡◌, map}
use Rattle.em_learning.specs.Telling.{line_of}
use Rattle.em_learning.proofs.telling.report_of.Given as goal

abbrev pub invariant-loop-job : goal.invariant-loop-job
invariant-loop-job l = l.lines ≡ map (λ p. line_of ((p.0.0.now, p.0.1.now), (p.1.0.now, p.1.1.now))) l.yielded
