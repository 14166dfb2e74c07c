use Rattle.std.proofs.Common.{◌≡◌, ◌++◌, map, take, Bor, List, ℕ}
use Rattle.std.specs.List.{flat_map}
use Rattle.em_lineutil.proofs.search.prefixed.Given as goal

abbrev pub invariant-loop-line : goal.invariant-loop-line
invariant-loop-line l = l.out ≡ flat_map (λ (r : Bor (List ℕ)). l.front ++ r.now) (take l.line-index l.lines)
