use Rattle.std.proofs.Common.{◌≡◌, ℕ, Option, Some, None, arith, refl, slice_get}
use Rattle.std.specs.Prelude.{IfSome}
use Rattle.std.proofs.lemmas.List.Elements.{All-contains_itself}
use Rattle.em_plan.specs.declared.planned.PlanJob.{PlanJob}
use Rattle.em_learning.specs.Waits.{IsPlanned}
use Rattle.em_learning.proofs.laws.law_planned.Goals as goal

pub returns : goal.returns
returns c = λ says goals p is.
    let at : (k : ℕ) (o : Option PlanJob) → slice_get p.jobs k ≡ o → IfSome o (IsPlanned k) = λ k. elim [
      | None ↦ λ _. tt
      | Some job ↦ λ there. (
        c.law_waits.ensures.rise says goals p is k job there,
        λ i d low. c.law_waits.ensures.below says goals p is k job there _ (All-contains_itself job.waits i d low),
      )
    ] in record {
      few = omega (arith, c.law_limit.ensures.few says goals p is);
      waits = λ k. at k (slice_get p.jobs k) refl;
    }
