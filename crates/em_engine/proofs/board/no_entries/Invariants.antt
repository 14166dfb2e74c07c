use Rattle.std.proofs.Common.{◌≡◌, [], replicate}
use Rattle.em_engine.proofs.board.no_entries.Given as goal

abbrev pub invariant-loop : goal.invariant-loop
invariant-loop l = l.asked.items ≡ replicate l.counter []
