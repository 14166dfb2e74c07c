use Rattle.em_plan.specs.Resuming.{known_in}
use Rattle.em_plan.specs.Walking.{unruled_by}
use Rattle.em_implicit.proofs.Following.{first, lacked, then_asked, leave_asked}
use Rattle.em_plan.proofs.making.RuleContext.unruled_unit.Goals as goal

pub returns-in_err-found-clause-asked : goal.returns-in_err-found-clause-asked
returns-in_err-found-clause-asked g c =
    let book = c.args.self.now.book.now in
    let later = unruled_by book.rules book.patterns c.args.self.now.cwd.now (known_in c.args.choice.marks.now) c.args.choice.name.now in
    leave_asked later _ c.from_residual.ensures.1 c.in_err-found.ensures.asked

pub returns-in_err-found_unit-clause-asked : goal.returns-in_err-found_unit-clause-asked
returns-in_err-found_unit-clause-asked g c =
    let book = c.args.self.now.book.now in
    let later = unruled_by book.rules book.patterns c.args.self.now.cwd.now (known_in c.args.choice.marks.now) c.args.choice.name.now in
    then_asked later _ _ c.in_ok-found.ensures.asked (lacked g.T.There.asks _ _ _ c.from_residual-in_err-found_unit.ensures.1)

pub returns-clause-asked : goal.returns-clause-asked
returns-clause-asked g c =
    let book = c.args.self.now.book.now in
    let later = unruled_by book.rules book.patterns c.args.self.now.cwd.now (known_in c.args.choice.marks.now) c.args.choice.name.now in
    rw c.in_ok-found_unit.ensures (first later c.in_ok-found.ensures.asked)
