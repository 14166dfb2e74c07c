use Rattle.std.proofs.Common.{drop, []}
use Rattle.em_view.specs.Rows.{is_memory}
use Rattle.em_view.proofs.Performing.{Continues}
use Rattle.em_pathname.specs.Walking.{in_each}
use Rattle.em_pathname.proofs.walk.in_each.Given as goal

abbrev pub invariant-loop-dir : goal.invariant-loop-dir
invariant-loop-dir g l = Continues is_memory g.V.View.tells l.initial.desk l.desk (in_each l.cwd l.component [] l.dirs) (in_each l.cwd l.component l.all (drop l.dir-index l.dirs))
