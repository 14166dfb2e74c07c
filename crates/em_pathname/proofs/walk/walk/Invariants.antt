use Rattle.std.proofs.Common.{drop, map, List, Bor}
use Rattle.em_view.specs.Rows.{is_memory}
use Rattle.em_view.proofs.Performing.{Continues}
use Rattle.em_glob.specs.declared.glyph.Glyph.{Glyph}
use Rattle.em_pathname.specs.Walking.{walk}
use Rattle.em_pathname.proofs.walk.walk.Given as goal

abbrev pub invariant-loop-component : goal.invariant-loop-component
invariant-loop-component g l = Continues is_memory g.V.View.tells l.initial.desk l.desk
    (walk l.cwd (map (λ (c : Bor (List Glyph)). c.now) l.components) l.initial.dirs)
    (walk l.cwd (map (λ (c : Bor (List Glyph)). c.now) (drop l.component-index l.components)) l.dirs)
