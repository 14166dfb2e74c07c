use Rattle.std.proofs.Common.{◌≡◌, ◌-◌, suc, length, Ok, arith}
use Rattle.em_submake.specs.declared.ground.Ground.TheVariants as ground
use Rattle.em_submake.specs.declared.levels.Next.TheVariants as next
use Rattle.em_script.specs.Strands.{Status, Spent}
use Rattle.em_submake.proofs.Going.{still}
use Rattle.em_submake.proofs.Turning.{too_deep, short, entered, answered}
use Rattle.em_submake.proofs.climbing.down.Goals as goal

pub returns-then-len-ge-DEEPEST-clause-goes : goal.returns-then-len-ge-DEEPEST-clause-goes
returns-then-len-ge-DEEPEST-clause-goes g c =
    let vs = c.args.levels.now in
    let full : 8 - length vs ≡ 0 = omega (arith, c.requires.some.0, c.len.ensures, c.if-len-ge-DEEPEST.true) in
    (still _ _ c.args.out.now c.args.out.now (too_deep (g.M.Maker.job_of c.args.maker.now) g.J.Steps.plot g.J.Steps.back c.args.job c.resume.new.self vs c.args.out.now c.args.line full c.resume.ensures), c.requires.some)

pub returns-in_err-book-clause-goes : goal.returns-in_err-book-clause-goes
returns-in_err-book-clause-goes g c = short (g.M.Maker.job_of c.args.maker.now) g.J.Steps.plot g.J.Steps.back _ _ _ c.args.levels.now _ c.from_residual.result c.in_err-book.ensures.does.performs.grows c.from_residual.ensures.1

pub returns-in_ok-vars-in-Planned-clause-goes : goal.returns-in_ok-vars-in-Planned-clause-goes
returns-in_ok-vars-in-Planned-clause-goes g c =
    let vs = c.args.levels.now in
    let place : 8 - length vs ≡ suc (7 - length vs) = omega (arith, c.requires.some.0, c.len.ensures, c.if-len-ge-DEEPEST.false) in
    entered (g.M.Maker.job_of c.args.maker.now) g.J.Steps.plot g.J.Steps.back c.args.out.now c.ground_of.new.out c.go_on.new.out c.args.job vs c.args.line (ground.Planned c.in-Planned.book c.in-Planned.plan) c.go_on.new.levels c.go_on.result place
    (rw c.in-Planned.is at c.in_ok-book.ensures.does) (rw c.new-ended.ensures at c.go_on.ensures.goes)

pub returns-in-Ended-clause-goes : goal.returns-in-Ended-clause-goes
returns-in-Ended-clause-goes g c =
    let vs = c.args.levels.now in
    let place : 8 - length vs ≡ suc (7 - length vs) = omega (arith, c.requires.some.0, c.len.ensures, c.if-len-ge-DEEPEST.false) in
    entered (g.M.Maker.job_of c.args.maker.now) g.J.Steps.plot g.J.Steps.back c.args.out.now c.ground_of.new.out c.ground_of.new.out c.args.job vs c.args.line (ground.Ended c.in-Ended.status) vs (Ok (next.Job c.resume-in-Ended.new.self)) place
    (rw c.in-Ended.is at c.in_ok-book.ensures.does) (answered (g.M.Maker.job_of c.args.maker.now) g.J.Steps.plot g.J.Steps.back c.args.job c.resume-in-Ended.new.self vs c.ground_of.new.out (Status c.in-Ended.status) c.resume-in-Ended.ensures, c.requires.some)

pub returns-in-Spent-clause-goes : goal.returns-in-Spent-clause-goes
returns-in-Spent-clause-goes g c =
    let vs = c.args.levels.now in
    let place : 8 - length vs ≡ suc (7 - length vs) = omega (arith, c.requires.some.0, c.len.ensures, c.if-len-ge-DEEPEST.false) in
    entered (g.M.Maker.job_of c.args.maker.now) g.J.Steps.plot g.J.Steps.back c.args.out.now c.ground_of.new.out c.ground_of.new.out c.args.job vs c.args.line ground.Spent vs (Ok (next.Job c.spent.new.self)) place
    (rw c.in-Spent.is at c.in_ok-book.ensures.does) (answered (g.M.Maker.job_of c.args.maker.now) g.J.Steps.plot g.J.Steps.back c.args.job c.spent.new.self vs c.ground_of.new.out Spent c.spent.ensures, c.requires.some)

pub returns-in_err-vars-in-Planned-clause-goes : goal.returns-in_err-vars-in-Planned-clause-goes
returns-in_err-vars-in-Planned-clause-goes g c = short (g.M.Maker.job_of c.args.maker.now) g.J.Steps.plot g.J.Steps.back _ _ _ c.args.levels.now _ c.from_residual-in_err-vars-in-Planned.result c.in_ok-book.ensures.does.performs.grows c.from_residual-in_err-vars-in-Planned.ensures.1
