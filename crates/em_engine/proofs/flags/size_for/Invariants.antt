use Rattle.std.proofs.Common.{◌≡◌, ◌^◌}
use Rattle.em_engine.proofs.flags.size_for.Given as goal

abbrev pub invariant-loop-levels : goal.invariant-loop-levels
invariant-loop-levels l = l.width ≡ 2 ^ l.levels
