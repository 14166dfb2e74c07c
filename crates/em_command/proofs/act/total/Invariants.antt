use Rattle.std.proofs.Common.{◌≡◌, ◌+◌, ◌-◌, ◌≤◌, ◌^◌, min, drop}
use Rattle.em_command.specs.Acting as acting
use Rattle.em_command.proofs.act.total.Given as goal

abbrev pub invariant-loop-piece : goal.invariant-loop-piece
invariant-loop-piece l = (min (l.size + acting.total (drop l.piece-index l.pieces)) (2 ^ 64 - 1) ≡ min (acting.total l.pieces) (2 ^ 64 - 1)) × (l.size ≤ 2 ^ 64 - 1)
