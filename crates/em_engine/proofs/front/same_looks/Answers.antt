use Rattle.std.proofs.Common.{arith, refl}
use Rattle.em_engine.proofs.Finding.{same_lists}
use Rattle.em_engine.proofs.front.same_looks.Goals as goal

pub returns : goal.returns
returns c =
    (λ t. same_lists c.args.ls.now c.args.ms.now (omega (arith, c.if-ls-ms.false)) (λ k lt. c.loop-i.invariant k (omega (arith, lt, c.loop-i-test.false))), λ e. refl)
