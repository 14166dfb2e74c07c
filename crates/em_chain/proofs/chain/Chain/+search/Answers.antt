use Rattle.std.proofs.Common.{◌+◌, ◌-◌, ◌/◌, ◌≤◌, ◌∙◌, ap, subst, sym, Some, ℕ, arith}
use Rattle.em_chain.proofs.Pairs.{open_right, open_left, before_next, few_next, counted_bounds}
use Rattle.em_chain.proofs.chain.Chain.+search.Goals as goal

pub search-requires : goal.search-requires
search-requires t c = (
  omega (arith, c.decreases),
  (
    open_right c.args.job c.args.self.now c.args.low c.args.high (c.args.low + (c.args.high - c.args.low) / 2) (rw (← c.self.view_is) c.self.invariant) c.requires.open (omega arith) (omega arith) (rw (← c.job_at-found.ensures.job) c.if-found-job.true),
    ap (λ (k : ℕ). Some k) c.job_at-found.ensures.job ∙ sym (before_next c.args.self.now (c.args.low + (c.args.high - c.args.low) / 2)),
  ),
)

pub search-requires-else-found-job : goal.search-requires-else-found-job
search-requires-else-found-job t c = (
  omega (arith, c.decreases),
  (
    open_left c.args.job c.args.self.now c.args.low c.args.high (c.args.low + (c.args.high - c.args.low) / 2) (rw (← c.self.view_is) c.self.invariant) c.requires.open (omega arith) (omega arith) (rw (← c.job_at-found.ensures.job) c.if-found-job.false),
    c.requires.before,
  ),
)

pub returns-then-found-job-clause-on : goal.returns-then-found-job-clause-on
returns-then-found-job-clause-on t c = let b = counted_bounds c.args.steps.now in omega (arith, b.0, c.job_at-found.ensures.step, c.search.ensures.on)

pub returns-then-found-job-clause-few : goal.returns-then-found-job-clause-few
returns-then-found-job-clause-few t c =
    let b = counted_bounds c.args.steps.now in
    few_next c.args.steps.now c.job_at-found.new.steps c.search.new.steps (c.args.high - (c.args.low + (c.args.high - c.args.low) / 2 + 1)) (c.args.high - c.args.low)
    (omega (arith, b.0, c.job_at-found.ensures.step)) (omega (arith, b.1, c.job_at-found.ensures.step)) c.search.ensures.on (omega arith) (omega arith) c.search.ensures.few

pub returns-else-found-job-clause-on : goal.returns-else-found-job-clause-on
returns-else-found-job-clause-on t c = let b = counted_bounds c.args.steps.now in omega (arith, b.0, c.job_at-found.ensures.step, c.search-else-found-job.ensures.on)

pub returns-else-found-job-clause-few : goal.returns-else-found-job-clause-few
returns-else-found-job-clause-few t c =
    let b = counted_bounds c.args.steps.now in
    few_next c.args.steps.now c.job_at-found.new.steps c.search-else-found-job.new.steps (c.args.low + (c.args.high - c.args.low) / 2 - c.args.low) (c.args.high - c.args.low)
    (omega (arith, b.0, c.job_at-found.ensures.step)) (omega (arith, b.1, c.job_at-found.ensures.step)) c.search-else-found-job.ensures.on (omega arith) (omega arith) c.search-else-found-job.ensures.few

pub returns-then-found-job-clause-some : goal.returns-then-found-job-clause-some
returns-then-found-job-clause-some t c some = subst (λ (n : ℕ). n ≤ c.search.new.steps) c.job_at-found.ensures.step c.search.ensures.on

pub returns-else-found-job-clause-some : goal.returns-else-found-job-clause-some
returns-else-found-job-clause-some t c some = subst (λ (n : ℕ). n ≤ c.search-else-found-job.new.steps) c.job_at-found.ensures.step c.search-else-found-job.ensures.on
