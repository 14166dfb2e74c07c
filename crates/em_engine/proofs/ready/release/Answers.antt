use Rattle.std.proofs.Common.{◌≤◌, ◌<◌, ◌∙◌, ◌-◌, ℕ, Bool, length, get_or, set, ap, arith}
use Rattle.std.specs.Prelude.{◌&&◌, ◌==◌}
use Rattle.std.proofs.Math.ListN.{length-set}
use Rattle.em_engine.proofs.Counts.{times_left}
use Rattle.em_engine.proofs.Places.{get_or_any}
use Rattle.em_engine.proofs.Readying.{released, reflagged}
use Rattle.em_engine.proofs.ready.release.Goals as goal

pub overflow_sub-left : goal.overflow_sub-left
overflow_sub-left c =
    let at : ℕ = get_or c.args.jobs.now c.loop-job.job-index 0 in
    let once = times_left c.args.jobs.now c.loop-job.job-index at c.loop-job-test.true (get_or_any c.args.jobs.now c.loop-job.job-index 0 at c.loop-job-test.true) in
    omega (arith, once, c.requires.enough at, c.loop-job.invariant.left at)

pub loop-job-preserved : goal.loop-job-preserved
loop-job-preserved c =
    let v = c.loop-job.invariant in
    let at : ℕ = get_or c.args.jobs.now c.loop-job.job-index 0 in
    let within : at < length c.args.left.now = c.requires.within c.loop-job.job-index 0 c.loop-job-test.true in
    let within' : at < length c.loop-job.left = omega (arith, within, c.loop-job.auto.left) in
    let once = times_left c.args.jobs.now c.loop-job.job-index at c.loop-job-test.true (get_or_any c.args.jobs.now c.loop-job.job-index 0 at c.loop-job-test.true) in
    let some : 1 ≤ get_or c.loop-job.left at 0 = omega (arith, once, c.requires.enough at, v.left at) in
    record {
      left = released c.args.left.now c.loop-job.left c.args.jobs.now c.loop-job.job-index 0 c.loop-job-test.true within' some v.left;
      room = ap length c.put.ensures ∙ length-set c.loop-job.flagged at _ ∙ v.room;
      marked = rw c.put.ensures (reflagged c.args.stages.now c.loop-job.left c.loop-job.flagged at _ _ within' (omega (arith, within, c.requires.room, v.room)) v.marked
          (ap (λ (b : Bool). b && (get_or (set c.loop-job.left at (get_or c.loop-job.left at 0 - 1)) at 0 == 0)) c.is_free-free.ensures));
    }
