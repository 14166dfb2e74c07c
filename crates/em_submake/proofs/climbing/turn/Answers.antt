use Rattle.em_submake.proofs.Turning.{turned_up, turned_down, turned_short}
use Rattle.em_submake.proofs.climbing.turn.Goals as goal

pub returns-in_err-outcome-clause-goes : goal.returns-in_err-outcome-clause-goes
returns-in_err-outcome-clause-goes g c = turned_short (g.M.Maker.job_of c.args.maker.now) g.J.Steps.plot g.J.Steps.back c.args.desk.now c.step.new.desk c.args.out.now c.step.new.out c.step.new.out c.args.current c.step.new.self c.args.levels.now c.args.levels.now
    c.from_residual.result _ c.in_err-outcome.ensures.turned c.from_residual.ensures.1

pub returns-in-Ended-clause-goes : goal.returns-in-Ended-clause-goes
returns-in-Ended-clause-goes g c = turned_up (g.M.Maker.job_of c.args.maker.now) g.J.Steps.plot g.J.Steps.back c.args.desk.now c.step.new.desk c.args.out.now c.step.new.out c.up.new.out c.args.current c.step.new.self c.args.levels.now c.up.new.levels c.up.result
    (rw c.in-Ended.is at c.in_ok-outcome.ensures.turned) c.up.ensures.goes

pub returns-in-Sub-clause-goes : goal.returns-in-Sub-clause-goes
returns-in-Sub-clause-goes g c = turned_down (g.M.Maker.job_of c.args.maker.now) g.J.Steps.plot g.J.Steps.back c.args.desk.now c.step.new.desk c.args.out.now c.step.new.out c.down.new.out c.args.current c.step.new.self c.args.levels.now c.down.new.levels c.down.result
    c.down.new.desk (rw c.in-Sub.is at c.in_ok-outcome.ensures.turned) c.down.ensures.goes
