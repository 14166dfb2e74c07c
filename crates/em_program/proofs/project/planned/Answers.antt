use Rattle.em_program.proofs.Following.{then, leave, finish}
use Rattle.em_program.proofs.Numbers.{plan_few, planned_so}
use Rattle.em_program.proofs.project.planned.Goals as goal

pub returns-in_err-say-in-Ok-clause-told : goal.returns-in_err-say-in-Ok-clause-told
returns-in_err-say-in-Ok-clause-told g c =
    let is = rw c.items.ensures at c.in-Ok.ensures.ok in
    rw is (leave _ c.from_residual.ensures.1 (rw c.bytes.ensures at c.in_err-say-in-Ok.ensures.told))

pub returns-in_ok-say-in-Ok-clause-told : goal.returns-in_ok-say-in-Ok-clause-told
returns-in_ok-say-in-Ok-clause-told g c =
    let is = rw c.items.ensures at c.in-Ok.ensures.ok in
    rw is (then _ (rw c.bytes.ensures at c.in_ok-say-in-Ok.ensures.told) finish)

pub returns-in_ok-say-in-Ok-clause-few : goal.returns-in_ok-say-in-Ok-clause-few
returns-in_ok-say-in-Ok-clause-few g c =
    plan_few c.law_limit.ensures.few c.args.book.now c.items.result.now c.args.tree.now c.args.cwd.now c.in-Ok.plan c.in-Ok.ensures.ok

pub returns-in_ok-say-in-Ok-clause-planned : goal.returns-in_ok-say-in-Ok-clause-planned
returns-in_ok-say-in-Ok-clause-planned g c =
    planned_so c.args.book.now c.items.result.now c.args.tree.now c.args.cwd.now c.in-Ok.plan c.law_limit.ensures.few c.law_waits.ensures.rise c.law_waits.ensures.below c.in-Ok.ensures.ok
