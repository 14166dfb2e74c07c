use Rattle.em_implicit.specs.Seeking.{if_there, all_there, seen}
use Rattle.em_implicit.proofs.Following.{first, lacked, then_asked, leave_asked}
use Rattle.em_implicit.proofs.applying.Known.applies.Goals as goal

pub returns-in_err-needed-clause-asked : goal.returns-in_err-needed-clause-asked
returns-in_err-needed-clause-asked g c = lacked g.T.There.asks _ _ _ c.from_residual.ensures.1

pub returns-in_err-all_there-clause-asked : goal.returns-in_err-all_there-clause-asked
returns-in_err-all_there-clause-asked g c =
    let rules = c.args.self.now.rules.now in
    let cwd = c.args.self.now.cwd.now in
    let later = if_there rules cwd (all_there rules cwd (seen c.args.candidate.now).order) in
    leave_asked later _ c.from_residual-in_err-all_there.ensures.1 (rw (c.items.ensures, c.in_ok-needed.ensures.0) at c.in_err-all_there.ensures.asked)

pub returns-then-not-branch-clause-asked : goal.returns-then-not-branch-clause-asked
returns-then-not-branch-clause-asked g c =
    let rules = c.args.self.now.rules.now in
    let cwd = c.args.self.now.cwd.now in
    let later = if_there rules cwd (all_there rules cwd (seen c.args.candidate.now).order) in
    first later (rw (c.items.ensures, c.in_ok-needed.ensures.0, c.if-not-branch.true) at c.in_ok-all_there.ensures.asked)

pub returns-clause-asked : goal.returns-clause-asked
returns-clause-asked g c =
    let rules = c.args.self.now.rules.now in
    let cwd = c.args.self.now.cwd.now in
    let later = if_there rules cwd (all_there rules cwd (seen c.args.candidate.now).order) in
    then_asked later _ _ (rw (c.items.ensures, c.in_ok-needed.ensures.0, c.if-not-branch.false) at c.in_ok-all_there.ensures.asked)
    (rw (c.items-2.ensures, c.in_ok-needed.ensures.1) at c.all_there-2.ensures.asked)
