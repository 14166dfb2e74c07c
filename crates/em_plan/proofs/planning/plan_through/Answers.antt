use Rattle.em_plan.proofs.Asked.{desk_plans}
use Rattle.em_plan.proofs.planning.plan_through.Goals as goal

pub returns-clause-performs : goal.returns-clause-performs
returns-clause-performs g c = desk_plans {tells = g.V.View.tells} c.args.desk.now c.plan_by.new.there c.args.book.now c.args.goals.now c.args.cwd.now c.plan_by.result c.plan_by.ensures.asked
