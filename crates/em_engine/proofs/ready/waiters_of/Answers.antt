use Rattle.std.proofs.Common.{◌≡◌, ◌∙◌, ◌+◌, ◌==◌, ℕ, List, [], cond, length, get_or, ap, arith}
use Rattle.em_engine.specs.Waits.{times}
use Rattle.em_engine.proofs.Places.{get_or_any, whole}
use Rattle.em_engine.proofs.Readying.{one_more, all_noted}
use Rattle.em_engine.proofs.ready.waiters_of.Goals as goal

pub note_waiter-requires : goal.note_waiter-requires
note_waiter-requires c i d lt =
    let lt' = c.loop-job-test.true in
    let jobs : c.items.result.now ≡ get_or c.args.waits.now c.loop-job.job [] =
    c.items.ensures ∙ c.index-waits-job.is ∙ get_or_any c.args.waits.now c.loop-job.job c.index-waits-job.result [] lt' in
    let low = c.requires.lower c.loop-job.job i d (omega (arith, lt, ap length jobs)) in
    let here : get_or c.items.result.now i d ≡ get_or (get_or c.args.waits.now c.loop-job.job []) i d = ap (λ (ks : List ℕ). get_or ks i d) jobs in
    let len : length c.as_mut_slice.result.now ≡ length c.loop-job.waiters.items = ap length c.as_mut_slice.ensures.value in
    omega (arith, low, here, len, lt', c.loop-job.invariant.count)

pub loop-job-preserved : goal.loop-job-preserved
loop-job-preserved c =
    let value : c.as_mut_slice.result.now ≡ c.loop-job.waiters.items = c.as_mut_slice.ensures.value in
    let len : length c.note_waiter.new.waiters ≡ length c.loop-job.waiters.items = c.note_waiter.auto.waiters ∙ ap length value in
    let jobs : c.items.result.now ≡ get_or c.args.waits.now c.loop-job.job [] =
    c.items.ensures ∙ c.index-waits-job.is ∙ get_or_any c.args.waits.now c.loop-job.job c.index-waits-job.result [] c.loop-job-test.true in
    rw (whole c.loop-job.waiters.len c.note_waiter.new.waiters c.loop-job.waiters.items len (omega arith)) (record {
      count = len ∙ c.loop-job.invariant.count;
      each = one_more c.args.waits.now c.loop-job.waiters.items c.note_waiter.new.waiters c.loop-job.job c.loop-job.invariant.each
          (λ j k. c.in_ok-note_waiter.ensures j k ∙ ap (λ (ws : List (List ℕ)). times j (get_or ws k []) + cond (c.loop-job.job == j) (times k c.items.result.now) 0) value
          ∙ ap (λ (ks : List ℕ). times j (get_or c.loop-job.waiters.items k []) + cond (c.loop-job.job == j) (times k ks) 0) jobs);
    })

pub returns-clause-each : goal.returns-clause-each
returns-clause-each c = all_noted c.args.waits.now c.loop-job.waiters.items c.loop-job.job c.loop-job-test.false c.loop-job.invariant.each
