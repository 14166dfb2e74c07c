use Rattle.std.proofs.Common.{◌≡◌, ◌++◌, drop}
use Rattle.em_exec.specs.Exec.{said}
use Rattle.em_exec.proofs.script.say.Given as goal

abbrev pub invariant-loop-piece : goal.invariant-loop-piece
invariant-loop-piece l = l.out ++ said (drop l.piece-index l.pieces) ≡ l.fn.out ++ said l.pieces
