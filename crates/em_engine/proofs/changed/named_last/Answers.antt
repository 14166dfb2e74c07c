use Rattle.std.proofs.Common.{◌≡◌, ◌+◌, ◌-◌, take, ap, sym, ◌∙◌, arith}
use Rattle.em_engine.specs.Fronts.{named_last}
use Rattle.em_engine.proofs.Fronting.{named_here, named_before}
use Rattle.em_engine.proofs.changed.named_last.Goals as goal

pub returns-then-is_some : goal.returns-then-is_some
returns-then-is_some c =
    let ds = c.args.deltas.now in
    let i = c.loop-left.left - 1 in
    let next : c.loop-left.left ≡ i + 1 = omega arith in
    sym (c.loop-left.invariant.0 ∙ ap (λ k. named_last (take k ds) c.args.p.now) next ∙ named_here ds i c.index-deltas-left.result c.args.p.now (omega arith) c.index-deltas-left.is (grind arith))

pub loop-left-preserved : goal.loop-left-preserved
loop-left-preserved c =
    let ds = c.args.deltas.now in
    let i = c.loop-left.left - 1 in
    let next : c.loop-left.left ≡ i + 1 = omega arith in
    (c.loop-left.invariant.0 ∙ ap (λ k. named_last (take k ds) c.args.p.now) next ∙ named_before ds i c.index-deltas-left.result c.args.p.now (omega arith) c.index-deltas-left.is (grind arith), omega arith)
