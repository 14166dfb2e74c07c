use Rattle.std.proofs.Common.{◌∙◌, ◌+◌, ℕ, sym, ap, append-nil}
use Rattle.em_base.proofs.Lemmas.{left_at, none_at}
use Rattle.em_job.specs.Making.{jobs_of}
use Rattle.em_job.proofs.Numbered.{numbered}
use Rattle.em_job.proofs.making.specs.Goals as goal

pub loop-planned-preserved : goal.loop-planned-preserved
loop-planned-preserved c =
    let first = left_at c.items-planned-items.result.now c.loop-planned.planned-index c.planned-item.result c.loop-planned-test.true c.planned-item.is in
    let left = rw c.items-planned-items.ensures at first in
    let job = c.in_ok-job.ensures.common c.args.order.now c.args.base c.in_ok-common.ensures in
    record {
      number = ap (λ (n : ℕ). n + 1) c.loop-planned.invariant.number;
      whole = rw (c.in_ok-push.ensures.items, c.in_ok-spec.ensures) (numbered c.args.book.now c.args.order.now c.args.base _ _ _ _ _ _ _ c.loop-planned.invariant.number job (rw left at c.loop-planned.invariant.whole));
    }

pub returns : goal.returns
unfolding jobs_of
returns c =
    let none = none_at c.args.plan.now.jobs c.loop-planned.planned-index (rw c.items-planned-items.ensures at c.loop-planned-test.false) in
    sym (append-nil _) ∙ (rw none at c.loop-planned.invariant.whole)
