use Rattle.std.proofs.Common.{refl}
use Rattle.em_view.proofs.Doing.{then_s, leave_s, finish_s, out_s, owned_s}
use Rattle.em_job.specs.Preparing.{decide}
use Rattle.em_job.proofs.prepare.decide.Goals as goal

pub returns-in_err-owns : goal.returns-in_err-owns
unfolding decide
returns-in_err-owns g c = leave_s _ c.from_residual.ensures.1 (rw (c.items.ensures, c.get.ensures) at c.in_err-owns.ensures _)

pub returns-in_err-newer : goal.returns-in_err-newer
unfolding decide
returns-in_err-newer g c = then_s _ (rw (c.items.ensures, c.get.ensures) at c.in_ok-owns.ensures _) (leave_s _ c.from_residual-in_err-newer.ensures.1 (rw c.items-2.ensures at c.in_err-newer.ensures _))

pub returns-in-Ended : goal.returns-in-Ended
unfolding decide
returns-in-Ended g c =
    let d = rw (c.items-3.ensures, c.items-4.ensures) at c.decision.ensures in
    then_s _ (rw (c.items.ensures, c.get.ensures) at c.in_ok-owns.ensures _) (then_s _ (rw c.items-2.ensures at c.in_ok-newer.ensures _) (rw (← d, c.in-Ended.is) finish_s))

pub returns-in_err-no_rule-in-NoRule : goal.returns-in_err-no_rule-in-NoRule
unfolding decide
returns-in_err-no_rule-in-NoRule g c =
    let d = rw (c.items-3.ensures, c.items-4.ensures) at c.decision.ensures in
    then_s _ (rw (c.items.ensures, c.get.ensures) at c.in_ok-owns.ensures _) (then_s _ (rw c.items-2.ensures at c.in_ok-newer.ensures _)
    (rw (← d, c.in-NoRule.is) (leave_s _ c.from_residual-in_err-no_rule-in-NoRule.ensures.1 (owned_s _ c.in_err-no_rule-in-NoRule.ensures))))

pub returns-in_ok-no_rule-in-NoRule : goal.returns-in_ok-no_rule-in-NoRule
unfolding decide
returns-in_ok-no_rule-in-NoRule g c =
    let d = rw (c.items-3.ensures, c.items-4.ensures) at c.decision.ensures in
    then_s _ (rw (c.items.ensures, c.get.ensures) at c.in_ok-owns.ensures _) (then_s _ (rw c.items-2.ensures at c.in_ok-newer.ensures _)
    (rw (← d, c.in-NoRule.is) (then_s _ (owned_s _ c.in_ok-no_rule-in-NoRule.ensures) finish_s)))

pub returns-in_err-reasons-in-Remake : goal.returns-in_err-reasons-in-Remake
unfolding decide
returns-in_err-reasons-in-Remake g c =
    then_s _ (rw (c.items.ensures, c.get.ensures) at c.in_ok-owns.ensures _) (then_s _ (rw c.items-2.ensures at c.in_ok-newer.ensures _) (out_s _ refl c.from_residual-in_err-reasons-in-Remake.ensures.1))

pub returns-in_ok-reasons-in-Remake : goal.returns-in_ok-reasons-in-Remake
unfolding decide
returns-in_ok-reasons-in-Remake g c =
    let d = rw (c.items-3.ensures, c.items-4.ensures) at c.decision.ensures in
    then_s _ (rw (c.items.ensures, c.get.ensures) at c.in_ok-owns.ensures _) (then_s _ (rw c.items-2.ensures at c.in_ok-newer.ensures _)
    (rw (← d, c.in-Remake.is) (rw (c.items-in-Remake-2.ensures, c.in_ok-reasons-in-Remake.ensures, c.items-in-Remake.ensures) at c.expand_recipe.ensures)))
