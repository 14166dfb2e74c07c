use Rattle.std.proofs.Common.{◌≡◌, ◌≤◌, false, length, drop}
use Rattle.std.specs.List.{list_any}
use Rattle.em_glob.specs.Patterns.{is_closing}
use Rattle.em_glob.proofs.piece.closed_length.Given as goal

abbrev pub invariant-loop-closed : goal.invariant-loop-closed
invariant-loop-closed l = record {
  within : l.closed ≤ length l.pattern;
  rest : list_any is_closing (drop l.closed l.pattern) ≡ false;
}

abbrev pub decreases-loop-closed : goal.decreases-loop-closed
decreases-loop-closed l = l.closed
