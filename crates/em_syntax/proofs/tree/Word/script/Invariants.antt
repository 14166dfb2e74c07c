use Rattle.std.proofs.Common.{◌≡◌, ◌+◌, length, drop}
use Rattle.std.specs.Prelude.{slice_get}
use Rattle.em_syntax.specs.Scripts.{scripts, scripts_in}
use Rattle.em_syntax.proofs.tree.Word.script.Given as goal

abbrev pub invariant-loop-piece : goal.invariant-loop-piece
invariant-loop-piece l = record {
  same : slice_get (scripts l.self) l.n ≡ slice_get (scripts_in (drop l.piece-index l.piece-items)) l.left;
  count : length (scripts l.self) + l.left ≡ length (scripts_in (drop l.piece-index l.piece-items)) + l.n;
}
