use Rattle.std.proofs.Common.{◌≡◌, ◌∙◌, ◌+◌, ap, sym, ◌-◌, ◌^◌, min, ℕ, List, arith}
use Rattle.std.specs.List.{filter, fold}
use Rattle.std.specs.FinMap.{len}
use Rattle.em_chain.specs.declared.post.Post.{Post}
use Rattle.em_chain.specs.Floors.{is_live}
use Rattle.em_chain.proofs.Counting.{counts, passes}
use Rattle.em_chain.proofs.marks.count_live.Goals as goal

pub loop-job-init : goal.loop-job-init
loop-job-init c = record {
  fits = omega arith;
  count = ap (λ (es : List (ℕ × Post)). min (fold (λ a e. a + len e.1.delta) 0 (filter (λ e. is_live c.args.floor e.0) es)) (2 ^ 64 - 1)) (c.into_iter-job-iterator.ensures.into_iter_gives ∙ c.iter-job-items.ensures.rest);
}

pub loop-job-preserved-then-job-floor : goal.loop-job-preserved-then-job-floor
loop-job-preserved-then-job-floor c = record {
  fits = (let e = c.saturating_add-count.ensures in omega (arith, e));
  count = counts (2 ^ 64 - 1) c.args.floor c.loop-job.count c.saturating_add-count.result (c.in-Some.job.now, c.in-Some.post.now) c.next.new.self c.loop-job.job-iterator c.if-job-floor.true c.in-Some.ensures.steps
      (c.saturating_add-count.ensures ∙ ap (λ (n : ℕ). min (c.loop-job.count + n) (2 ^ 64 - 1)) c.len.ensures) ∙ c.loop-job.invariant.count;
}

pub loop-job-preserved : goal.loop-job-preserved
loop-job-preserved c = record {
  fits = c.loop-job.invariant.fits;
  count = passes (2 ^ 64 - 1) c.args.floor c.loop-job.count (c.in-Some.job.now, c.in-Some.post.now) c.next.new.self c.loop-job.job-iterator c.if-job-floor.false c.in-Some.ensures.steps ∙ c.loop-job.invariant.count;
}

pub returns : goal.returns
returns c =
    (let e : c.loop-job.count ≡ min c.loop-job.count (2 ^ 64 - 1) = (let f = c.loop-job.invariant.fits in omega (arith, f)) in e)
    ∙ sym (ap (λ (es : List (ℕ × Post)). min (fold (λ a e. a + len e.1.delta) c.loop-job.count (filter (λ e. is_live c.args.floor e.0) es)) (2 ^ 64 - 1)) c.in-None.ensures.steps.0) ∙ c.loop-job.invariant.count
