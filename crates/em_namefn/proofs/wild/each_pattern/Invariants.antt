use Rattle.std.proofs.Common.{drop, map, [], List, ℕ, Bor}
use Rattle.em_view.specs.Rows.{is_memory}
use Rattle.em_view.proofs.Performing.{Continues}
use Rattle.em_namefn.specs.Wildcards.{each_pattern}
use Rattle.em_namefn.proofs.wild.each_pattern.Given as goal

abbrev pub invariant-loop-pattern : goal.invariant-loop-pattern
invariant-loop-pattern g l = Continues is_memory g.V.View.tells l.initial.desk l.desk
    (each_pattern l.cwd [] (map (λ (p : Bor (List ℕ)). p.now) l.patterns))
    (each_pattern l.cwd l.all (map (λ (p : Bor (List ℕ)). p.now) (drop l.pattern-index l.patterns)))
