use Rattle.std.proofs.Common.{◌≡◌, ◌<◌, Some, length, get_or, slice_get, take, arith}
use Rattle.std.proofs.lemmas.Grind.{common_steps}
use Rattle.std.proofs.lemmas.List.{take_more}
use Rattle.std.proofs.lemmas.List.Elements.{All-get_or}
use Rattle.std.proofs.lemmas.Option.{slice_get-get_or}
use Rattle.em_learning.proofs.Numbers.{put_more}
use Rattle.em_learning.proofs.waits.add.Goals as goal

pub loop-job-preserved : goal.loop-job-preserved
loop-job-preserved c =
    let made = c.args.made.now in
    let waits = c.loop-job.waits in
    let i = c.loop-job.job-index in
    let job = get_or made i 0 in
    let within : job < length c.args.waits.now = All-get_or (λ m. m < length c.args.waits.now) made i 0 c.loop-job-test.true c.requires in
    let low : job < length waits = omega (arith, within, c.loop-job.invariant.long) in
    let own = get_or waits job c.index-waits-job.result in
    let at : slice_get waits job ≡ Some own = slice_get-get_or waits job c.index-waits-job.result low in
    record {
      long = grind (arith, common_steps, c.loop-job.invariant.long);
      each = λ k. rw (take_more made i 0 c.loop-job-test.true, c.in_ok-add_lower.ensures)
          (put_more c.args.waits.now waits (take i made) c.args.needed.now job own at k (c.loop-job.invariant.each k));
    }
