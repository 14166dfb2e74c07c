use Rattle.em_plan.specs.Makings.{making_of}
use Rattle.em_plan.specs.Plans.{asked, plan_of}
use Rattle.em_parts_tests.proofs.learning.five.Goals as goal

pub returns : goal.returns
unfolding plan_of
returns c =
    let book = c.add-2.new.self in
    c.law_planned.ensures (making_of book.rules book.patterns c.in_ok-tree.tree c.root.result) (asked c.items.result.now book.default_goal) c.in_ok-plan.field-0 c.in_ok-plan.ensures.ok
