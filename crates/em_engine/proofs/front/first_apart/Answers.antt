use Rattle.std.proofs.Common.{arith}
use Rattle.em_engine.proofs.Finding.{same_lists}
use Rattle.em_engine.proofs.front.first_apart.Goals as goal

pub returns-else-es-fs : goal.returns-else-es-fs
returns-else-es-fs c =
    same_lists c.args.es.now c.args.fs.now c.if-es-fs.false (λ k lt. c.loop-i.invariant k (omega (arith, lt, c.loop-i-test.false)))
