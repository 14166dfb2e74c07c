use Rattle.std.proofs.Common.{◌≡◌, ◌++◌, map, Bor, List, ℕ}
use Rattle.em_lineutil.specs.Lines.{bare}
use Rattle.em_lineutil.specs.Sorting.{bare_lines}
use Rattle.em_lineutil.proofs.sort.push_lines.Given as goal

abbrev pub invariant-loop-line : goal.invariant-loop-line
invariant-loop-line l = map (λ (r : Bor (List ℕ)). r.now) l.all.items ++ map bare l.line-iterator ≡ map (λ (r : Bor (List ℕ)). r.now) l.fn.all.items ++ bare_lines l.fn.text
