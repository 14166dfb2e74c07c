use Rattle.std.proofs.Common.{◌≡◌, ◌≤◌, ◌+◌, ◌-◌, ◌^◌, length, min}
use Rattle.std.specs.FinMap.{entries}
use Rattle.em_chain.proofs.Posting.{heads}
use Rattle.em_chain.proofs.lines.PathChains.count_below.Given as goal

abbrev pub invariant-loop-line : goal.invariant-loop-line
invariant-loop-line l = record {
  fits : l.count ≤ 2 ^ 64 - 1;
  count : min (l.count + length (heads l.floor l.line-iterator)) (2 ^ 64 - 1) ≡ min (length (heads l.floor (entries l.self))) (2 ^ 64 - 1);
}
