use Rattle.std.proofs.Common.{◌≡◌, ◌≤◌, ◌-◌, ◌^◌, ◌+◌, min}
use Rattle.std.specs.List.{filter, sum_by, fold}
use Rattle.std.specs.FinMap.{len}
use Rattle.em_chain.specs.Floors.{is_live}
use Rattle.em_chain.proofs.marks.count_live.Given as goal

abbrev pub invariant-loop-job : goal.invariant-loop-job
invariant-loop-job l = record {
  fits : l.count ≤ 2 ^ 64 - 1;
  count : min (fold (λ a e. a + len e.1.delta) l.count (filter (λ e. is_live l.floor e.0) l.job-iterator)) (2 ^ 64 - 1) ≡ min (sum_by (λ e. len e.1.delta) (filter (λ e. is_live l.floor e.0) l.posts.entries)) (2 ^ 64 - 1);
}
