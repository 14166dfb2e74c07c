use Rattle.std.proofs.Common.{◌≡◌, ◌++◌, drop, map, List, ℕ, Bor}
use Rattle.em_namefn.proofs.list.between.Given as goal

abbrev now : List (Bor (List ℕ)) → List (List ℕ)
now ws = map (λ (w : Bor (List ℕ)). w.now) ws

abbrev pub invariant-loop-word : goal.invariant-loop-word
invariant-loop-word l = l.all.items ++ map (λ w. l.front ++ w ++ l.back) (now (drop l.word-index l.word-items)) ≡ map (λ w. l.front ++ w ++ l.back) (now l.word-items)
