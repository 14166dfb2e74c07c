use Rattle.std.proofs.Common.{◌≡◌, ◌⊎◌, subst, Result, Bool, ℕ, List, Ok, Err}
use Rattle.std.specs.Prelude.{IfOk, IfErr}
use Rattle.em_view.specs.declared.no.DeskNo.TheVariants as desk
use Rattle.em_implicit.specs.declared.there.OnTree.{OnTree}
use Rattle.em_implicit.specs.Asking.{Asks}
use Rattle.em_implicit.specs.Seeking.{stands}
use Rattle.em_plan.specs.declared.planned.Plan.{Plan}
use Rattle.em_plan.specs.declared.no.PlanNo.{PlanNo}
use Rattle.em_plan.specs.declared.no.PlanNo.TheVariants as no
use Rattle.em_plan.specs.Walking.{plan_asking}
use Rattle.em_plan.proofs.Asked.{plain_ok, plain_err, plain_unspent}
use Rattle.em_plan.proofs.Telling.{told_plan}
use Rattle.em_plan.proofs.planning.plan.Goals as goal

abbrev tree_asks : Asks OnTree
tree_asks = λ a b p r. (b ≡ a) × IfOk r (λ v. v ≡ stands a.tree.now p) × IfErr r (λ e. e ≡ desk.NoMemory)

abbrev tree_tells : OnTree → List ℕ → Bool
tree_tells t = stands t.tree.now

pub returns-clause-ok : goal.returns-clause-ok
returns-clause-ok c = subst (λ (z : Result Plan PlanNo). IfOk c.plan_by.result (λ p. z ≡ Ok p)) (told_plan c.args.book.now c.args.goals.now c.args.tree.now c.args.cwd.now)
    (plain_ok tree_asks tree_tells (λ a b p v h. (h.0, h.1)) _ _ (plan_asking c.args.book.now c.args.goals.now c.args.cwd.now) c.plan_by.result c.plan_by.ensures.asked)

pub returns-clause-err : goal.returns-clause-err
returns-clause-err c = subst (λ (z : Result Plan PlanNo). IfErr c.plan_by.result (λ e. (e ≡ no.NoMemory) ⊎ (z ≡ Err e))) (told_plan c.args.book.now c.args.goals.now c.args.tree.now c.args.cwd.now)
    (plain_err tree_asks tree_tells (λ a b p v h. (h.0, h.1)) (λ a b p e h. h.2) _ _ (plan_asking c.args.book.now c.args.goals.now c.args.cwd.now) c.plan_by.result c.plan_by.ensures.asked)

pub returns-clause-unspent : goal.returns-clause-unspent
returns-clause-unspent c = plain_unspent tree_asks tree_tells (λ a b p v h. (h.0, h.1)) (λ a b p e h. h.2) _ _ (plan_asking c.args.book.now c.args.goals.now c.args.cwd.now) c.plan_by.result c.plan_by.ensures.asked
