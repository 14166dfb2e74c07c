use Rattle.std.proofs.Common.{◌≡◌, ◌++◌, drop, map, List, ℕ, Bor}
use Rattle.em_namefn.specs.Names.{pairs}
use Rattle.em_namefn.proofs.list.pairs.Given as goal

abbrev now : List (Bor (List ℕ)) → List (List ℕ)
now ws = map (λ (w : Bor (List ℕ)). w.now) ws

abbrev pub invariant-loop-n : goal.invariant-loop-n
invariant-loop-n l = l.all.items ++ pairs (drop l.n (now l.a)) (drop l.n (now l.b)) ≡ pairs (now l.a) (now l.b)
