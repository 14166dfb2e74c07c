use Rattle.std.proofs.Common.{arith}
use Rattle.em_engine.proofs.Finding.{agrees_all}
use Rattle.em_engine.proofs.front.first_wrong.Goals as goal

pub returns : goal.returns
returns c = agrees_all c.args.state.now c.args.es.now (λ k lt. c.loop-i.invariant k (omega (arith, lt, c.loop-i-test.false)))
