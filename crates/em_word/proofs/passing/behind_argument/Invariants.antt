use Rattle.std.proofs.Common.{◌≡◌, drop, length}
use Rattle.em_syntax.specs.Scripts.{scripts_in}
use Rattle.em_word.specs.Passing.{behind}
use Rattle.em_word.proofs.passing.behind_argument.Given as goal

abbrev pub invariant-loop-piece : goal.invariant-loop-piece
invariant-loop-piece l = record {
  rest : behind 1 l.pieces ≡ behind l.open l.rest;
  count : drop l.scripts (scripts_in l.pieces) ≡ scripts_in l.rest;
}

abbrev pub decreases-loop-piece : goal.decreases-loop-piece
decreases-loop-piece l = length l.rest
