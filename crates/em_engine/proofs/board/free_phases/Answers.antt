use Rattle.std.proofs.Common.{◌≡◌, ◌∙◌, ℕ, ap, replicate, arith}
use Rattle.em_engine.specs.declared.event.Phase.TheVariants as phase
use Rattle.em_engine.proofs.board.free_phases.Goals as goal

pub returns : goal.returns
returns g c =
    let end : c.loop.counter ≡ c.args.count = omega arith in
    c.loop.invariant ∙ ap (λ (n : ℕ). replicate n phase.Free) end
