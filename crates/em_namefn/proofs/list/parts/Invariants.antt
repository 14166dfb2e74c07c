use Rattle.std.proofs.Common.{◌≡◌, ◌++◌, drop, map, List, ℕ, Bor}
use Rattle.em_namefn.specs.Names.{part_of}
use Rattle.em_namefn.proofs.list.parts.Given as goal

abbrev now : List (Bor (List ℕ)) → List (List ℕ)
now ws = map (λ (w : Bor (List ℕ)). w.now) ws

abbrev pub invariant-loop-word : goal.invariant-loop-word
invariant-loop-word l = now l.parts.items ++ map (part_of l.part) (now (drop l.word-index l.word-items)) ≡ map (part_of l.part) (now l.word-items)
