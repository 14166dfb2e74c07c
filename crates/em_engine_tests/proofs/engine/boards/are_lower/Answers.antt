use Rattle.std.proofs.Common.{◌<◌, ℕ, List, [], All, arith, sym, subst, get_or, inl, inr}
use Rattle.std.proofs.lemmas.Bool.{cases_lt}
use Rattle.std.proofs.lemmas.List.{get_or_past}
use Rattle.em_engine_tests.proofs.engine.boards.are_lower.Goals as goal

pub returns : goal.returns
returns c = λ _ j.
    let P : List ℕ → Type 0 = λ ks. All (λ i. i < j) ks in
    elim (cases_lt j c.loop-job.job) as (λ _. P (get_or c.args.waits.now j [])) [
      | inl lt ↦ c.loop-job.invariant j lt
      | inr ge ↦ subst P (sym (get_or_past c.args.waits.now j [] (omega (arith, ge, c.loop-job-test.false)))) (λ i d lt. absurd (omega (arith, lt)))
    ]
