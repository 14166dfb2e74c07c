use Rattle.em_implicit.specs.Seeking.{seeking}
use Rattle.em_implicit.proofs.Following.{on_desk}
use Rattle.em_implicit.proofs.seek.find_through.Goals as goal

pub returns-clause-performs : goal.returns-clause-performs
returns-clause-performs g c =
    let book = c.args.book.now in
    on_desk {tells = g.V.View.tells} c.args.desk.now c.find_by.new.there (seeking book.rules book.patterns c.args.cwd.now c.args.target.now) c.find_by.result c.find_by.ensures.asked
