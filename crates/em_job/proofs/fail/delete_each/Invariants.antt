use Rattle.std.specs.Iterator.Adapters.{zip_first, zip_second}
use Rattle.std.specs.Slice.Iter.{iter_rest}
use Rattle.em_view.proofs.Doing.{Goes}
use Rattle.em_job.specs.Stops.{is_free}
use Rattle.em_job.specs.Carrying.{delete_each}
use Rattle.em_job.proofs.fail.delete_each.Given as goal

abbrev pub invariant-loop-target : goal.invariant-loop-target
invariant-loop-target g l = Goes is_free g.V.View.tells l.initial.desk l.desk l.initial.spoken l.spoken (delete_each l.job l.place l.targets l.befores) (delete_each l.job l.place (iter_rest (zip_first l.target-iterator)) (iter_rest (zip_second l.target-iterator)))
