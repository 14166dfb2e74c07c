use Rattle.std.proofs.lemmas.Slice.Zip.{Zip-more, either_empty_from_Zip}
use Rattle.em_view.proofs.Doing.{finish_s, more_s, stop_s, end_s}
use Rattle.em_job.proofs.Stepping.{each_next, none_left, goes_as}
use Rattle.em_job.proofs.fail.delete_each.Goals as goal

pub returns-in_err-delete_one : goal.returns-in_err-delete_one
returns-in_err-delete_one g c =
    let left = Zip-more c.loop-target.target-iterator c.next.new.self c.next.result _ c.in-Some.is c.next.ensures.steps in
    stop_s {next = c.delete_one.new.desk} {u = c.delete_one.new.spoken} _ (goes_as (each_next c.args.job.now c.args.place.now left.0 left.1) c.loop-target.invariant) c.from_residual.ensures.1 (rw c.bytes.ensures at c.in_err-delete_one.ensures)

pub loop-target-preserved : goal.loop-target-preserved
loop-target-preserved g c =
    let left = Zip-more c.loop-target.target-iterator c.next.new.self c.next.result _ c.in-Some.is c.next.ensures.steps in
    more_s {next = c.delete_one.new.desk} {u = c.delete_one.new.spoken} _ (goes_as (each_next c.args.job.now c.args.place.now left.0 left.1) c.loop-target.invariant) (rw c.bytes.ensures at c.in_ok-delete_one.ensures)

pub returns : goal.returns
returns g c =
    let none = either_empty_from_Zip c.loop-target.target-iterator c.next.new.self c.next.result c.in-None.is c.next.ensures.steps in
    end_s (goes_as (none_left c.args.job.now c.args.place.now _ _ none) c.loop-target.invariant) finish_s
