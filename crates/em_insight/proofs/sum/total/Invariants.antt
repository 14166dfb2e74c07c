use Rattle.std.proofs.Common.{◌≡◌, ◌≤◌, ◌+◌, ◌^◌, drop}
use Rattle.em_insight.specs.Jobs.{total}
use Rattle.em_insight.proofs.sum.total.Given as goal

-- what was added, and what is left
abbrev pub invariant-loop-line : goal.invariant-loop-line
invariant-loop-line l = (total l.lines ≤ 2 ^ 62) × (l.sum + total (drop l.line-index l.lines) ≡ total l.lines)
