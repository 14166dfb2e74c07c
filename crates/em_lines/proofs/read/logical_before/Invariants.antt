use Rattle.std.proofs.Common.{◌≡◌, map}
use Rattle.em_lines.specs.Kept.{bared}
use Rattle.em_lines.proofs.read.logical_before.Given as goal

abbrev pub invariant-loop-line : goal.invariant-loop-line
invariant-loop-line l = record {
  done : l.bared ≡ map bared l.yielded;
  end : l.too_long ≡ l.initial.too_long;
}
