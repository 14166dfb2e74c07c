use Rattle.std.proofs.Common.{refl}
use Rattle.em_view.proofs.Doing.{then_s, finish_s, owned_s, below_ok, below_err}
use Rattle.em_plan.specs.Walking.{is_want}
use Rattle.em_submake.proofs.Trying.{tried_ok, tried_err}
use Rattle.em_submake.proofs.ground.plan_of.Goals as goal

pub returns-in-Ok-clause-does : goal.returns-in-Ok-clause-does
returns-in-Ok-clause-does g c = then_s _ (tried_ok {low = is_want} (below_ok (λ e. e) (rw c.items-goals.ensures at c.in-Ok.ensures.performs))) (owned_s _ c.planned.ensures.works)

pub returns-in-Err-Spent-clause-does : goal.returns-in-Err-Spent-clause-does
returns-in-Err-Spent-clause-does g c = then_s _ (tried_err refl (below_err (λ e. e) (λ x. refl) (λ n. refl) (rw (c.in-Err-Spent.field-0-is, c.items-goals.ensures) at c.in-Err-Spent.ensures.performs))) finish_s

pub returns-in-Err-NoTargets-clause-does : goal.returns-in-Err-NoTargets-clause-does
returns-in-Err-NoTargets-clause-does g c = then_s _ (tried_err refl (below_err (λ e. e) (λ x. refl) (λ n. refl) (rw (c.in-Err-NoTargets.field-0-is, c.items-goals.ensures) at c.in-Err-NoTargets.ensures.performs))) (owned_s _ c.no_plan.ensures.works)

pub returns-clause-does : goal.returns-clause-does
returns-clause-does g c = then_s _ (tried_err refl (below_err (λ e. e) (λ x. refl) (λ n. refl) (rw (c.in-Err-TooManyJobs.field-0-is, c.items-goals.ensures) at c.in-Err-TooManyJobs.ensures.performs))) (owned_s _ c.no_plan-in-Err-TooManyJobs.ensures.works)
