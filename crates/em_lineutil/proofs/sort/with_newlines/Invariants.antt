use Rattle.std.proofs.Common.{◌≡◌, ◌++◌, ◌∷◌, [], map, take, Bor, List, ℕ}
use Rattle.std.specs.List.{flat_map}
use Rattle.em_lineutil.proofs.sort.with_newlines.Given as goal

abbrev pub invariant-loop-line : goal.invariant-loop-line
invariant-loop-line l = l.text ≡ flat_map (λ (r : Bor (List ℕ)). r.now ++ 10 ∷ []) (take l.line-index l.lines)
